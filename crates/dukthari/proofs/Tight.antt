-- Every call's contract is tight: it asks for nothing, any two outcomes that it allows are equal, and on a refusal no lent byte changes. Assumes nothing.
use mathlib.Core.Path.{refl, sym, ◌∙◌}
use denote.Triple.Clauses.{at_exit}
use borrow.Fn.Kinds.{ended_of}
use Rattle.dukthari.specs.Tight.{read_only, lent, Tight}
use Rattle.dukthari.proofs.Promises.{marks_kept, components_kept, route_kept, reached_kept, fresh_kept, hear_kept, read_map_kept, write_map_kept}
use Rattle.dukthari.proofs.dk_number.Kinds as number-kinds
use Rattle.dukthari.proofs.dk_number.Reads as number-reads
use Rattle.dukthari.proofs.dk_place.Kinds as place-kinds
use Rattle.dukthari.proofs.dk_place.Reads as place-reads
use Rattle.dukthari.proofs.dk_step.Kinds as step-kinds
use Rattle.dukthari.proofs.dk_step.Reads as step-reads
use Rattle.dukthari.proofs.dk_marks.Kinds as marks-kinds
use Rattle.dukthari.proofs.dk_marks.Reads as marks-reads
use Rattle.dukthari.proofs.dk_components.Kinds as components-kinds
use Rattle.dukthari.proofs.dk_components.Reads as components-reads
use Rattle.dukthari.proofs.dk_verdict.Kinds as verdict-kinds
use Rattle.dukthari.proofs.dk_verdict.Reads as verdict-reads
use Rattle.dukthari.proofs.dk_route.Kinds as route-kinds
use Rattle.dukthari.proofs.dk_route.Reads as route-reads
use Rattle.dukthari.proofs.dk_reached.Kinds as reached-kinds
use Rattle.dukthari.proofs.dk_reached.Reads as reached-reads
use Rattle.dukthari.proofs.state_calls.dk_fresh.Kinds as fresh-kinds
use Rattle.dukthari.proofs.state_calls.dk_fresh.Reads as fresh-reads
use Rattle.dukthari.proofs.state_calls.dk_sound.Kinds as sound-kinds
use Rattle.dukthari.proofs.state_calls.dk_sound.Reads as sound-reads
use Rattle.dukthari.proofs.state_calls.dk_outstanding.Kinds as outstanding-kinds
use Rattle.dukthari.proofs.state_calls.dk_outstanding.Reads as outstanding-reads
use Rattle.dukthari.proofs.state_calls.dk_hear.Kinds as hear-kinds
use Rattle.dukthari.proofs.state_calls.dk_hear.Reads as hear-reads
use Rattle.dukthari.proofs.files.dk_read_map.Kinds as read-map-kinds
use Rattle.dukthari.proofs.files.dk_read_map.Reads as read-map-reads
use Rattle.dukthari.proofs.files.dk_write_map.Kinds as write-map-kinds
use Rattle.dukthari.proofs.files.dk_write_map.Reads as write-map-reads

pub number_tight : Tight 0 number-kinds.ps number-kinds.r number-reads.Asked number-reads.Learnt (λ κs x. x.refusal)
number_tight = record {
  every = λ κs a. tt;
  one = λ κs a x y ws vs h k. (h ∙ sym k, refl);
  lending = λ κs. (read_only, (read_only, (read_only, (read_only, (read_only, (read_only, tt))))));
  kept = λ κs a x ws h n. (tt, (tt, (tt, (tt, (tt, (tt, tt))))));
}

pub place_tight : Tight 0 place-kinds.ps place-kinds.r place-reads.Asked place-reads.Learnt (λ κs x. x.refusal)
place_tight = record {
  every = λ κs a. tt;
  one = λ κs a x y ws vs h k. (h ∙ sym k, refl);
  lending = λ κs. (read_only, (read_only, (read_only, (read_only, tt))));
  kept = λ κs a x ws h n. (tt, (tt, (tt, (tt, tt))));
}

pub step_tight : Tight 0 step-kinds.ps step-kinds.r step-reads.Asked step-reads.Learnt (λ κs x. x.refusal)
step_tight = record {
  every = λ κs a. tt;
  one = λ κs a x y ws vs h k. (h ∙ sym k, refl);
  lending = λ κs. (read_only, (read_only, (read_only, (read_only, (read_only, (read_only, (read_only, tt)))))));
  kept = λ κs a x ws h n. (tt, (tt, (tt, (tt, (tt, (tt, (tt, tt)))))));
}

pub marks_tight : Tight 2 marks-kinds.ps marks-kinds.r marks-reads.Asked marks-reads.Learnt (λ κs x. x.refusal)
marks_tight = record {
  every = λ κs a. tt;
  one = λ κs a x y ws vs h k. (h.0 ∙ sym k.0, λ i. (tt, (tt, (tt, (tt, (tt, ((h.1 ∙ sym k.1) i, tt)))))));
  lending = λ κs. (read_only, (read_only, (read_only, (read_only, (read_only, (lent, tt))))));
  kept = λ κs a x ws h n. (tt, (tt, (tt, (tt, (tt, ((marks_kept κs a x (at_exit (ended_of 2 marks-kinds.ps marks-kinds.r) κs a ws) h).nothing n, tt))))));
}

pub components_tight : Tight 3 components-kinds.ps components-kinds.r components-reads.Asked components-reads.Learnt (λ κs x. x.refusal)
components_tight = record {
  every = λ κs a. tt;
  one = λ κs a x y ws vs h k. (h.0 ∙ sym k.0, λ i. (tt, (tt, (tt, (tt, (tt, ((h.1 ∙ sym k.1) i, ((h.2 ∙ sym k.2) i, tt))))))));
  lending = λ κs. (read_only, (read_only, (read_only, (read_only, (read_only, (lent, (lent, tt)))))));
  kept = λ κs a x ws h n. let c = (components_kept κs a x (at_exit (ended_of 3 components-kinds.ps components-kinds.r) κs a ws) h).nothing n in (tt, (tt, (tt, (tt, (tt, (c.1, (c.2, tt)))))));
}

pub verdict_tight : Tight 1 verdict-kinds.ps verdict-kinds.r verdict-reads.Asked verdict-reads.Learnt (λ κs x. x.refusal)
verdict_tight = record {
  every = λ κs a. tt;
  one = λ κs a x y ws vs h k. (h ∙ sym k, refl);
  lending = λ κs. (read_only, (read_only, (read_only, (read_only, (read_only, (read_only, tt))))));
  kept = λ κs a x ws h n. (tt, (tt, (tt, (tt, (tt, (tt, tt))))));
}

pub route_tight : Tight 2 route-kinds.ps route-kinds.r route-reads.Asked route-reads.Learnt (λ κs x. x.refusal)
route_tight = record {
  every = λ κs a. tt;
  one = λ κs a x y ws vs h k. (h.0 ∙ sym k.0, λ i. (tt, (tt, (tt, (tt, (tt, (tt, ((h.1 ∙ sym k.1) i, tt))))))));
  lending = λ κs. (read_only, (read_only, (read_only, (read_only, (read_only, (read_only, (lent, tt)))))));
  kept = λ κs a x ws h n. (tt, (tt, (tt, (tt, (tt, (tt, (((route_kept κs a x (at_exit (ended_of 2 route-kinds.ps route-kinds.r) κs a ws) h).nothing n).1, tt)))))));
}

pub reached_tight : Tight 2 reached-kinds.ps reached-kinds.r reached-reads.Asked reached-reads.Learnt (λ κs x. x.refusal)
reached_tight = record {
  every = λ κs a. tt;
  one = λ κs a x y ws vs h k. (h.0 ∙ sym k.0, λ i. (tt, (tt, (tt, (tt, (tt, (tt, ((h.1 ∙ sym k.1) i, tt))))))));
  lending = λ κs. (read_only, (read_only, (read_only, (read_only, (read_only, (read_only, (lent, tt)))))));
  kept = λ κs a x ws h n. (tt, (tt, (tt, (tt, (tt, (tt, (((reached_kept κs a x (at_exit (ended_of 2 reached-kinds.ps reached-kinds.r) κs a ws) h).nothing n).1, tt)))))));
}

pub fresh_tight : Tight 2 fresh-kinds.ps fresh-kinds.r fresh-reads.Asked fresh-reads.Learnt (λ κs x. x.refusal)
fresh_tight = record {
  every = λ κs a. tt;
  one = λ κs a x y ws vs h k. (h.0 ∙ sym k.0, λ i. (tt, (tt, (tt, (tt, (tt, ((h.1 ∙ sym k.1) i, tt)))))));
  lending = λ κs. (read_only, (read_only, (read_only, (read_only, (read_only, (lent, tt))))));
  kept = λ κs a x ws h n. (tt, (tt, (tt, (tt, (tt, ((fresh_kept κs a x (at_exit (ended_of 2 fresh-kinds.ps fresh-kinds.r) κs a ws) h).nothing n, tt))))));
}

pub sound_tight : Tight 1 sound-kinds.ps sound-kinds.r sound-reads.Asked sound-reads.Learnt (λ κs x. x.refusal)
sound_tight = record {
  every = λ κs a. tt;
  one = λ κs a x y ws vs h k. (h ∙ sym k, refl);
  lending = λ κs. (read_only, (read_only, (read_only, (read_only, (read_only, tt)))));
  kept = λ κs a x ws h n. (tt, (tt, (tt, (tt, (tt, tt)))));
}

pub outstanding_tight : Tight 1 outstanding-kinds.ps outstanding-kinds.r outstanding-reads.Asked outstanding-reads.Learnt (λ κs x. x.refusal)
outstanding_tight = record {
  every = λ κs a. tt;
  one = λ κs a x y ws vs h k. (h ∙ sym k, refl);
  lending = λ κs. (read_only, (read_only, (read_only, (read_only, (read_only, tt)))));
  kept = λ κs a x ws h n. (tt, (tt, (tt, (tt, (tt, tt)))));
}

pub hear_tight : Tight 1 hear-kinds.ps hear-kinds.r hear-reads.Asked hear-reads.Learnt (λ κs x. x.refusal)
hear_tight = record {
  every = λ κs a. tt;
  one = λ κs a x y ws vs h k. (h.0 ∙ sym k.0, λ i. (tt, (tt, (tt, (tt, (tt, (tt, (tt, ((h.1 ∙ sym k.1) i, tt)))))))));
  lending = λ κs. (read_only, (read_only, (read_only, (read_only, (read_only, (read_only, (read_only, (lent, tt))))))));
  kept = λ κs a x ws h n. (tt, (tt, (tt, (tt, (tt, (tt, (tt, ((hear_kept κs a x (at_exit (ended_of 1 hear-kinds.ps hear-kinds.r) κs a ws) h).nothing n, tt))))))));
}

pub read_map_tight : Tight 2 read-map-kinds.ps read-map-kinds.r read-map-reads.Asked read-map-reads.Learnt (λ κs x. x.refusal)
read_map_tight = record {
  every = λ κs a. tt;
  one = λ κs a x y ws vs h k. (h.0 ∙ sym k.0, λ i. (tt, ((h.1.0 ∙ sym k.1.0) i, tt)));
  lending = λ κs. (read_only, (lent, tt));
  kept = λ κs a x ws h n. (tt, (((read_map_kept κs a x (at_exit (ended_of 2 read-map-kinds.ps read-map-kinds.r) κs a ws) h).nothing n).3, tt));
}

pub write_map_tight : Tight 2 write-map-kinds.ps write-map-kinds.r write-map-reads.Asked write-map-reads.Learnt (λ κs x. x.refusal)
write_map_tight = record {
  every = λ κs a. tt;
  one = λ κs a x y ws vs h k. (h.0 ∙ sym k.0, λ i. (tt, (tt, (tt, (tt, ((h.1 ∙ sym k.1) i, tt))))));
  lending = λ κs. (read_only, (read_only, (read_only, (read_only, (lent, tt)))));
  kept = λ κs a x ws h n. (tt, (tt, (tt, (tt, (((write_map_kept κs a x (at_exit (ended_of 2 write-map-kinds.ps write-map-kinds.r) κs a ws) h).nothing n).1, tt)))));
}
