-- `new_list::put` meets its contract: a block that is not found ends it, else the growths give what it gives. Assumes nothing.
use mathlib.Core.Path.{sym, ◌∙◌}
use Rattle.new_list.proofs.Puts.{putting_look, putting_on, put_lost, put_goes}
use Rattle.new_list.proofs.put.Goals as goal

pub looked_up-requires : goal.looked_up-requires
looked_up-requires c =
    (putting_look c.requires, c.requires.fits)

pub write_on-requires : goal.write_on-requires
write_on-requires c =
    putting_on c.requires c.alloc_ckpoint-window.ensures

pub returns-in-Ok : goal.returns-in-Ok
returns-in-Ok c =
    put_goes c.requires c.alloc_ckpoint-window.ensures c.min.ensures (sym c.looked_up.ensures ∙ c.in-Ok.is) c.write_on.ensures

pub returns-in-Err : goal.returns-in-Err
returns-in-Err c =
    put_lost c.requires c.alloc_ckpoint-window.ensures _ (sym c.looked_up.ensures ∙ c.in-Err.is)
