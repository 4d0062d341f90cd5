-- Every call keeps the page of the calls: whatever its contract allows, as the toolchain reads it from the code, is as answers/specs/Promises.antt says.
-- The arguments stand in the order of the call's parameters. Assumes nothing.
use mathlib.Core.Path.{◌≡◌, sym, subst}
use Rattle.mesh.specs.Mesh.{sizes}
use Rattle.touching.specs.Entry.{components_table}
use Rattle.answers.specs.Promises.{dk_number, dk_place, dk_step, dk_marks, dk_components, dk_verdict, dk_route, dk_reached, dk_fresh, dk_sound, dk_outstanding, dk_hear, dk_read_map, dk_write_map}
use Rattle.answers.proofs.Promises.{number_fields, place_fields_lem, step_fields_lem, marks_fields, components_fields, verdict_fields_lem, route_fields, reached_fields, fresh_fields, sound_fields, outstanding_fields, hear_fields, read_map_fields, write_map_fields}
use Rattle.dukthari.specs.Tight.{Promised}
use Rattle.dukthari.proofs.dk_number.Kinds as number-kinds
use Rattle.dukthari.proofs.dk_number.Reads as number-reads
use Rattle.dukthari.proofs.dk_place.Kinds as place-kinds
use Rattle.dukthari.proofs.dk_place.Reads as place-reads
use Rattle.dukthari.proofs.dk_step.Kinds as step-kinds
use Rattle.dukthari.proofs.dk_step.Reads as step-reads
use Rattle.dukthari.proofs.dk_marks.Kinds as marks-kinds
use Rattle.dukthari.proofs.dk_marks.Reads as marks-reads
use Rattle.dukthari.proofs.dk_components.Kinds as components-kinds
use Rattle.dukthari.proofs.dk_components.Reads as components-reads
use Rattle.dukthari.proofs.dk_verdict.Kinds as verdict-kinds
use Rattle.dukthari.proofs.dk_verdict.Reads as verdict-reads
use Rattle.dukthari.proofs.dk_route.Kinds as route-kinds
use Rattle.dukthari.proofs.dk_route.Reads as route-reads
use Rattle.dukthari.proofs.dk_reached.Kinds as reached-kinds
use Rattle.dukthari.proofs.dk_reached.Reads as reached-reads
use Rattle.dukthari.proofs.state_calls.dk_fresh.Kinds as fresh-kinds
use Rattle.dukthari.proofs.state_calls.dk_fresh.Reads as fresh-reads
use Rattle.dukthari.proofs.state_calls.dk_sound.Kinds as sound-kinds
use Rattle.dukthari.proofs.state_calls.dk_sound.Reads as sound-reads
use Rattle.dukthari.proofs.state_calls.dk_outstanding.Kinds as outstanding-kinds
use Rattle.dukthari.proofs.state_calls.dk_outstanding.Reads as outstanding-reads
use Rattle.dukthari.proofs.state_calls.dk_hear.Kinds as hear-kinds
use Rattle.dukthari.proofs.state_calls.dk_hear.Reads as hear-reads
use Rattle.dukthari.proofs.files.dk_read_map.Kinds as read-map-kinds
use Rattle.dukthari.proofs.files.dk_read_map.Reads as read-map-reads
use Rattle.dukthari.proofs.files.dk_write_map.Kinds as write-map-kinds
use Rattle.dukthari.proofs.files.dk_write_map.Reads as write-map-reads

-- what holds of the definitions' answer, and of what they leave, holds of what is equal to them
as_answered : {A : Type 0} (P : A → Type 0) (x y : A) → x ≡ y → P y → P x
as_answered P x y e p = subst P (sym e) p

as_left : {A B : Type 0} (P : A → B → Type 0) (x y : A) (s t : B) → x ≡ y → s ≡ t → P y t → P x s
as_left P x y s t e f p = subst (λ v. P v s) (sym e) (subst (P y) (sym f) p)

pub number_kept : Promised 0 number-kinds.ps number-kinds.r number-reads.Learnt
    (λ κs (w, (h, (d, (x, (y, (z, _)))))) answer _. dk_number w h d x y z answer)
number_kept κs (w, (h, (d, (x, (y, (z, _)))))) answer s e = as_answered (dk_number w h d x y z) answer _ e (number_fields w h d x y z)

pub place_kept : Promised 0 place-kinds.ps place-kinds.r place-reads.Learnt
    (λ κs (w, (h, (d, (node, _)))) answer _. dk_place w h d node answer)
place_kept κs (w, (h, (d, (node, _)))) answer s e = as_answered (dk_place w h d node) answer _ e (place_fields_lem w h d node)

pub step_kept : Promised 0 step-kinds.ps step-kinds.r step-reads.Learnt
    (λ κs (w, (h, (d, (x, (y, (z, (direction, _))))))) answer _. dk_step w h d x y z direction answer)
step_kept κs (w, (h, (d, (x, (y, (z, (direction, _))))))) answer s e = as_answered (dk_step w h d x y z direction) answer _ e (step_fields_lem w h d x y z direction)

pub marks_kept : Promised 2 marks-kinds.ps marks-kinds.r marks-reads.Learnt
    (λ κs (w, (h, (d, (orientation, (cells, (out, _)))))) answer (_, (_, (_, (_, (_, (out', _)))))). dk_marks w h d orientation cells.now out.now answer out'.now)
marks_kept κs (w, (h, (d, (orientation, (cells, (out, _)))))) answer (_, (_, (_, (_, (_, (out', _)))))) (e, f) =
    as_left (dk_marks w h d orientation cells.now out.now) answer _ out'.now _ e f (marks_fields w h d orientation cells.now out.now)

pub components_kept : Promised 3 components-kinds.ps components-kinds.r components-reads.Learnt
    (λ κs (w, (h, (d, (orientation, (cells, (table, (row, _))))))) answer (_, (_, (_, (_, (_, (table', (row', _))))))). dk_components w h d orientation cells.now table.now row.now answer table'.now row'.now)
components_kept κs (w, (h, (d, (orientation, (cells, (table, (row, _))))))) answer (_, (_, (_, (_, (_, (table', (row', _))))))) (e, f, g) =
    let page = dk_components w h d orientation cells.now table.now row.now in
    let T = components_table (sizes w h d) cells.now orientation table.now row.now in
    as_left (λ a t. page a t row'.now) answer _ table'.now T e f (subst (page _ T) (sym g) (components_fields w h d orientation cells.now table.now row.now))

pub verdict_kept : Promised 1 verdict-kinds.ps verdict-kinds.r verdict-reads.Learnt
    (λ κs (w, (h, (d, (start, (end, (cells, _)))))) answer _. dk_verdict w h d start end cells.now answer)
verdict_kept κs (w, (h, (d, (start, (end, (cells, _)))))) answer s e = as_answered (dk_verdict w h d start end cells.now) answer _ e (verdict_fields_lem w h d start end cells.now)

pub route_kept : Promised 2 route-kinds.ps route-kinds.r route-reads.Learnt
    (λ κs (w, (h, (d, (start, (end, (cells, (out, _))))))) answer (_, (_, (_, (_, (_, (_, (out', _))))))). dk_route w h d start end cells.now out.now answer out'.now)
route_kept κs (w, (h, (d, (start, (end, (cells, (out, _))))))) answer (_, (_, (_, (_, (_, (_, (out', _))))))) (e, f) =
    as_left (dk_route w h d start end cells.now out.now) answer _ out'.now _ e f (route_fields w h d start end cells.now out.now)

pub reached_kept : Promised 2 reached-kinds.ps reached-kinds.r reached-reads.Learnt
    (λ κs (w, (h, (d, (start, (end, (cells, (out, _))))))) answer (_, (_, (_, (_, (_, (_, (out', _))))))). dk_reached w h d start end cells.now out.now answer out'.now)
reached_kept κs (w, (h, (d, (start, (end, (cells, (out, _))))))) answer (_, (_, (_, (_, (_, (_, (out', _))))))) (e, f) =
    as_left (dk_reached w h d start end cells.now out.now) answer _ out'.now _ e f (reached_fields w h d start end cells.now out.now)

pub fresh_kept : Promised 2 fresh-kinds.ps fresh-kinds.r fresh-reads.Learnt
    (λ κs (w, (h, (d, (orientation, (cells, (state, _)))))) answer (_, (_, (_, (_, (_, (state', _)))))). dk_fresh w h d orientation cells.now state.now answer state'.now)
fresh_kept κs (w, (h, (d, (orientation, (cells, (state, _)))))) answer (_, (_, (_, (_, (_, (state', _)))))) (e, f) =
    as_left (dk_fresh w h d orientation cells.now state.now) answer _ state'.now _ e f (fresh_fields w h d orientation cells.now state.now)

pub sound_kept : Promised 1 sound-kinds.ps sound-kinds.r sound-reads.Learnt
    (λ κs (w, (h, (d, (orientation, (state, _))))) answer _. dk_sound w h d orientation state.now answer)
sound_kept κs (w, (h, (d, (orientation, (state, _))))) answer s e = as_answered (dk_sound w h d orientation state.now) answer _ e (sound_fields w h d orientation state.now)

pub outstanding_kept : Promised 1 outstanding-kinds.ps outstanding-kinds.r outstanding-reads.Learnt
    (λ κs (w, (h, (d, (orientation, (state, _))))) answer _. dk_outstanding w h d orientation state.now answer)
outstanding_kept κs (w, (h, (d, (orientation, (state, _))))) answer s e = as_answered (dk_outstanding w h d orientation state.now) answer _ e (outstanding_fields w h d orientation state.now)

pub hear_kept : Promised 1 hear-kinds.ps hear-kinds.r hear-reads.Learnt
    (λ κs (w, (h, (d, (orientation, (listener, (direction, (word, (state, _)))))))) answer (_, (_, (_, (_, (_, (_, (_, (state', _)))))))). dk_hear w h d orientation listener direction word state.now answer state'.now)
hear_kept κs (w, (h, (d, (orientation, (listener, (direction, (word, (state, _)))))))) answer (_, (_, (_, (_, (_, (_, (_, (state', _)))))))) (e, f) =
    as_left (dk_hear w h d orientation listener direction word state.now) answer _ state'.now _ e f (hear_fields w h d orientation listener direction word state.now)

pub read_map_kept : Promised 2 read-map-kinds.ps read-map-kinds.r read-map-reads.Learnt
    (λ κs (file, (cells, _)) answer (_, (cells', _)). dk_read_map file.now cells.now answer cells'.now)
read_map_kept κs (file, (cells, _)) answer (_, (cells', _)) (e, (f, bytes)) =
    as_left (dk_read_map file.now cells.now) answer _ cells'.now _ e f (read_map_fields file.now cells.now bytes)

pub write_map_kept : Promised 2 write-map-kinds.ps write-map-kinds.r write-map-reads.Learnt
    (λ κs (w, (h, (d, (cells, (out, _))))) answer (_, (_, (_, (_, (out', _))))). dk_write_map w h d cells.now out.now answer out'.now)
write_map_kept κs (w, (h, (d, (cells, (out, _))))) answer (_, (_, (_, (_, (out', _))))) (e, f) =
    as_left (dk_write_map w h d cells.now out.now) answer _ out'.now _ e f (write_map_fields w h d cells.now out.now)
