-- The fields of each answer, as defined, keep the page of the calls. Each promise is that of the definitions' crate, with the fields in its numbers' places.
-- Assumes nothing.
use mathlib.Core.List.{List}
use Prim.Native.Nat.{ℕ}
use lib.ListN.{length}
use Rattle.mesh.specs.Mesh.{sizes, place}
use Rattle.mesh.specs.Answers.{number_answer, place_answer, step_answer}
use Rattle.mesh.proofs.Promise.{number_promise, place_promise, step_promise}
use Rattle.rules.specs.Entry.{marks_answer, marks_out}
use Rattle.rules.proofs.Promise.{marks_promise}
use Rattle.touching.specs.Entry.{components_answer, components_table, components_row}
use Rattle.touching.specs.declared.Component.{Component}
use Rattle.touching.proofs.Call.{components_promise}
use Rattle.paths.specs.Entries.{verdict_answer, route_answer, route_out, reached_answer, reached_out}
use Rattle.paths.proofs.Promise.{promise}
use Rattle.talk.specs.Entries.{fresh_answer, fresh_out, sound_answer, outstanding_answer, hear_answer, hear_out}
use Rattle.talk.proofs.Entries.{fresh_call, sound_call, outstanding_call, hear_call}
use Rattle.format.specs.Promise.{Bytes}
use Rattle.format.specs.Entry.{read_answer, read_out, write_answer, write_out}
use Rattle.format.proofs.Promise.{reads, writes}
use Rattle.answers.specs.Fields.{node_fields, place_fields, step_fields, done_fields, counted_fields, verdict_fields, map_fields}
use Rattle.answers.specs.Promises.{dk_number, dk_place, dk_step, dk_marks, dk_components, dk_verdict, dk_route, dk_reached, dk_fresh, dk_sound, dk_outstanding, dk_hear, dk_read_map, dk_write_map}

module _ (w h d : ℕ) where
  pub number_fields : (x y z : ℕ) → dk_number w h d x y z (node_fields (number_answer (sizes w h d) (place x y z)))
  number_fields x y z = number_promise (sizes w h d) (place x y z)

  pub place_fields_lem : (node : ℕ) → dk_place w h d node (place_fields (place_answer (sizes w h d) node))
  place_fields_lem node = place_promise (sizes w h d) node

  pub step_fields_lem : (x y z j : ℕ) → dk_step w h d x y z j (step_fields (step_answer (sizes w h d) (place x y z) j))
  step_fields_lem x y z j = step_promise (sizes w h d) (place x y z) j

  pub marks_fields : (o : ℕ) (cells out : List ℕ)
      → dk_marks w h d o cells out (done_fields (marks_answer (sizes w h d) cells o (length out))) (marks_out (sizes w h d) cells o out)
  marks_fields o cells out = marks_promise (sizes w h d) cells o out

  pub components_fields : (o : ℕ) (cells table : List ℕ) (row : List Component)
      → dk_components w h d o cells table row (counted_fields (components_answer (sizes w h d) cells o (length table) (length row)))
      (components_table (sizes w h d) cells o table row) (components_row (sizes w h d) cells o table row)
  components_fields o cells table row = components_promise (sizes w h d) cells o table row

  pub verdict_fields_lem : (s e : ℕ) (cells : List ℕ) → dk_verdict w h d s e cells (verdict_fields (verdict_answer (sizes w h d) cells s e))
  verdict_fields_lem s e cells = (promise (sizes w h d) cells s e).verdict

  pub route_fields : (s e : ℕ) (cells out : List ℕ)
      → dk_route w h d s e cells out (counted_fields (route_answer (sizes w h d) cells s e (length out))) (route_out (sizes w h d) cells s e out)
  route_fields s e cells out = (promise (sizes w h d) cells s e).route out

  pub reached_fields : (s e : ℕ) (cells out : List ℕ)
      → dk_reached w h d s e cells out (counted_fields (reached_answer (sizes w h d) cells s e (length out))) (reached_out (sizes w h d) cells s e out)
  reached_fields s e cells out = (promise (sizes w h d) cells s e).reached out

  pub fresh_fields : (o : ℕ) (cells state : List ℕ)
      → dk_fresh w h d o cells state (done_fields (fresh_answer (sizes w h d) cells o (length state))) (fresh_out (sizes w h d) cells o state)
  fresh_fields o cells state = fresh_call (sizes w h d) cells o state

  pub sound_fields : (o : ℕ) (state : List ℕ) → dk_sound w h d o state (done_fields (sound_answer (sizes w h d) o state))
  sound_fields o state = sound_call (sizes w h d) o state

  pub outstanding_fields : (o : ℕ) (state : List ℕ) → dk_outstanding w h d o state (counted_fields (outstanding_answer (sizes w h d) o state))
  outstanding_fields o state = outstanding_call (sizes w h d) o state

  pub hear_fields : (o k j word : ℕ) (state : List ℕ)
      → dk_hear w h d o k j word state (done_fields (hear_answer (sizes w h d) o k j word state)) (hear_out (sizes w h d) o k j word state)
  hear_fields o k j word state = hear_call (sizes w h d) o k j word state

  pub write_map_fields : (cells out : List ℕ)
      → dk_write_map w h d cells out (counted_fields (write_answer (sizes w h d) cells (length out))) (write_out (sizes w h d) cells out)
  write_map_fields cells out = writes (sizes w h d) cells out

pub read_map_fields : (file cells : List ℕ) → Bytes file → dk_read_map file cells (map_fields (read_answer file (length cells))) (read_out file cells)
read_map_fields file cells bytes = reads file cells bytes
