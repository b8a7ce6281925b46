-- What is said of one run, and the details by which runs are told apart.
use Rattle.std.proofs.Common.{◌≡◌, ℕ, suc, ◌+◌, ◌<◌, ◌≤◌, Bool, true, false, List, [], ◌∷◌, ◌++◌, length, get_or, drop, Option, Some, None, refl, sym, ap, ◌∙◌, subst, add-one}
use Rattle.std.specs.Prelude.{Vec, Result, Ok, Err, IfOk, MatchBool}
use Rattle.std.specs.declared.alloc.Global.{Global}
use Rattle.std.proofs.lemmas.List.{append_assoc, append-nil, at_drop_more, drop_all}
use Rattle.cml_text.specs.Lines.{lines}
use Rattle.cml_hub.specs.Kept.{Kept}
use Rattle.cml_facts.specs.Details.{AreDetails, AreFallenDetails}
use Rattle.cml_facts.specs.declared.fault.detail.Detail.{Detail}
use Rattle.cml_properties.specs.declared.breach.Run.{Run}
use Rattle.cml_properties.specs.declared.property.Property.{Property}
use Rattle.cml_properties.specs.Judged.{AreJudged}
use Rattle.cml_judge.specs.declared.judged.Wanted.{Wanted}
use Rattle.cml_judge.specs.Finishes.{finish_at}
use Rattle.cml_judge.specs.Judgements.{IsJudgedAt, IsJudgedAlone, break_details, AreStopDetails, AreEndDetails}

-- the run of a hub, as it was judged
pub judged_at : {E : Type 0} (r : Result (Vec (Option ℕ) Global) E) (wanted : Wanted) (h : Kept) (run : Run) → run.output.now ≡ h.course.output → run.finish ≡ finish_at h →
    IfOk r (λ judged. AreJudged (lines wanted.first.now) run wanted.properties.now judged.items) → IfOk r (λ judged. IsJudgedAt wanted h judged.items)
judged_at (Ok judged) wanted h run output finish are = record { run = run; seen = record { output = output; finish = finish }; are = are }
judged_at (Err e) wanted h run output finish are = tt

pub judged_alone : {E : Type 0} (r : Result (Vec (Option ℕ) Global) E) (wanted : Wanted) (h : Kept) → wanted.first.now ≡ h.course.output →
    IfOk r (λ judged. IsJudgedAt wanted h judged.items) → IfOk r (λ judged. IsJudgedAlone wanted.properties.now h judged.items)
judged_alone (Ok judged) wanted h same at = record {
  run = at.run;
  seen = at.seen;
  are = subst (λ (out : List ℕ). AreJudged (lines out) at.run wanted.properties.now judged.items) same at.are;
}
judged_alone (Err e) wanted h same at = tt

-- the details of one property, and of those behind it
split_details : (n : ℕ) (line : Option ℕ) (rest : List (Option ℕ)) → break_details n (line ∷ rest) ≡ break_details n (line ∷ []) ++ break_details (suc n) rest
split_details n None rest = refl
split_details n (Some at) rest = refl

pub broken_more : (judged : List (Option ℕ)) (i : ℕ) (d : Option ℕ) (old new whole : List Detail) → i < length judged → new ≡ old ++ break_details i (get_or judged i d ∷ []) →
    old ++ break_details i (drop i judged) ≡ whole → new ++ break_details (i + 1) (drop (i + 1) judged) ≡ whole
broken_more judged i d old new whole h is so_far =
    let one = break_details i (get_or judged i d ∷ []) in
    let rest = break_details (suc i) (drop (i + 1) judged) in
    let next : break_details i (drop i judged) ≡ one ++ rest = at_drop_more (break_details i) judged i d h ∙ split_details i (get_or judged i d) (drop (i + 1) judged) in
    ap (λ k. new ++ break_details k (drop (i + 1) judged)) (add-one i)
    ∙ (ap (λ x. x ++ rest) is ∙ (append_assoc old one rest ∙ (ap (λ x. old ++ x) (sym next) ∙ so_far)))

pub broken_all : (judged : List (Option ℕ)) (i : ℕ) (old whole : List Detail) → length judged ≤ i → old ++ break_details i (drop i judged) ≡ whole → old ≡ whole
broken_all judged i old whole past so_far =
    sym (append-nil old) ∙ (ap (λ x. old ++ x) (sym (ap (break_details i) (drop_all i judged past))) ∙ so_far)

-- how a run ended, or how those of its threads did that ended at faults; and what it breaks
pub goal_so : (stops : Bool) (properties : List Property) (h : Kept) (own all : List Detail) (judged : List (Option ℕ)) → MatchBool stops (AreFallenDetails h own) (AreDetails h own) →
    IsJudgedAlone properties h judged → all ≡ own ++ break_details 0 judged → MatchBool stops (AreStopDetails properties h all) (AreEndDetails properties h all)
goal_so true properties h own all judged are so is = record { own = own; own_are = are; judged = judged; judged_so = so; details_are = is }
goal_so false properties h own all judged are so is = record { own = own; own_are = are; judged = judged; judged_so = so; details_are = is }
