-- What `Geometry::new` answers.
use Rattle.std.specs.Prelude.{Bool, true, false, Result, Ok, Err}
use Rattle.layout.specs.declared.Geometry.{Geometry}
use Rattle.layout.specs.declared.Refusal.{Refusal}
use Rattle.layout.specs.declared.Refusal.TheVariants.{Invalid}
use Rattle.layout.specs.Geometry.{card_fits}

abbrev pub pick_made : Bool → Geometry → Result Geometry Refusal
pick_made true g = Ok g
pick_made false g = Err Invalid

abbrev pub made_of : Geometry → Result Geometry Refusal
made_of g = pick_made (card_fits g) g
