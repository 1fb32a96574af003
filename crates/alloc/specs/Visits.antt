-- What the visits of a table's files hand over (01, "Lookup, visit, grow" and "The window").
use Rattle.std.specs.Prelude.{List, map, ℕ}
use Rattle.card.specs.Card.{Card}
use Rattle.ctz.specs.Visits.{Visited, visit_of}
use Rattle.files.specs.declared.Entry.{Entry}
use Rattle.files.specs.declared.Table.{Table}
use Rattle.files.specs.Table.{held, list_of}
use Rattle.window.specs.Scan.{Seen, seen_all, listed_of}

-- a whole visit, as a scan is told it
abbrev pub seen_from : Visited → Seen
seen_from v = record { blocks = v.handed; ok = v.clean }

-- the visit of one file
abbrev pub seen_of : Card → Entry → Seen
seen_of c e = seen_from (visit_of c (list_of e))

-- the visits of files
abbrev pub visits_of : Card → List Entry → List Seen
visits_of c es = map (seen_of c) es

-- what a scan is told: every file of the table, file numbers rising, up to the first -84
unfoldable pub seen_in : Card → Table → Seen
seen_in c t = seen_all (visits_of c (held t))

-- listed means handed over by the visit of some file
unfoldable pub listed_in : Card → Table → List ℕ
listed_in c t = listed_of (visits_of c (held t))
