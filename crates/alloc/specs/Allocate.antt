-- What an allocation answers for every input (01, "The window" and "Refusal numbers").
use Rattle.std.specs.Prelude.{Bool, true, false, ◌&&◌, ℕ, Err}
use Rattle.layout.specs.declared.Refusal.TheVariants.{Invalid}
use Rattle.card.specs.Card.{Card, is_card}
use Rattle.files.specs.declared.Table.{Table}
use Rattle.files.specs.Table.{table_ok}
use Rattle.window.specs.declared.Lookahead.{Lookahead}
use Rattle.window.specs.Value.{lookahead_fits, valid_of}
use Rattle.window.specs.Allocate.{Allocated, alloc_of}
use Rattle.alloc.specs.Visits.{seen_in}

-- geometry and slice, L, then window and table: -22, all as it came
abbrev pub alloc_tested : Card → ℕ → Table → Lookahead → Bool
alloc_tested c l t w = is_card c && lookahead_fits l && valid_of (record { N = c.N; L = l }) w && table_ok t

abbrev pub alloc_case : Bool → Lookahead → Allocated → Allocated
alloc_case true w a = a
alloc_case false w a = record { answer = Err Invalid; window = w }

unfoldable pub allocate_of : Card → ℕ → Table → Lookahead → Allocated
allocate_of c l t w = alloc_case (alloc_tested c l t w) w (alloc_of (record { N = c.N; L = l }) (seen_in c t) w)
