-- A map that was checked, as one value. Assumes nothing.
use Rattle.std.specs.Prelude.{Ok, Err, Result}
use Rattle.mesh.specs.Cells.{Map, map_of}
use Rattle.mesh.specs.Answers.{Answer, accepted}
use Rattle.mesh.specs.declared.Refusal.{Refusal}
use Rattle.maps.specs.declared.shelf.Shelf.{Shelf}

-- the map on a shelf; what the check found where one was asked for
abbrev pub map_on : Shelf → Map
map_on a = map_of a.sizes a.cells.now

abbrev pub checked : Result Shelf Refusal → Answer
checked (Ok a) = accepted
checked (Err r) = Err r
