-- What must hold of runs, and whether the run of a hub keeps it.
use Rattle.std.specs.Prelude.{◌≡◌, ℕ, suc, Bool, List, [], ◌∷◌, ◌++◌, Option, Some, None, is_none}
use Rattle.std.specs.List.{list_all}
use Rattle.cml_text.specs.Lines.{lines}
use Rattle.cml_hub.specs.Kept.{Kept}
use Rattle.cml_facts.specs.declared.fault.detail.Detail.{Detail}
use Rattle.cml_facts.specs.declared.fault.detail.Detail.TheVariants.{Breaks}
use Rattle.cml_facts.specs.Details.{AreDetails, AreFallenDetails}
use Rattle.cml_properties.specs.declared.breach.Run.{Run}
use Rattle.cml_properties.specs.Judged.{AreJudged}
use Rattle.cml_properties.specs.declared.property.Property.{Property}
use Rattle.cml_judge.specs.declared.judged.Wanted.{Wanted}
use Rattle.cml_judge.specs.Finishes.{finish_at}

-- a run as properties see it: what the hub has printed, and how far it has come
pub record IsSeenAs (h : Kept) (run : Run) : Type 0 where
  pub output : run.output.now ≡ h.course.output
  pub finish : run.finish ≡ finish_at h

-- Of each property that is wanted the line at which the run of the hub breaks it, if it does.
pub record IsJudgedAt (wanted : Wanted) (h : Kept) (judged : List (Option ℕ)) : Type 0 where
  pub run : Run
  pub seen : IsSeenAs h run
  pub are : AreJudged (lines wanted.first.now) run wanted.properties.now judged

-- the same of one run, which is compared with none but itself
pub record IsJudgedAlone (properties : List Property) (h : Kept) (judged : List (Option ℕ)) : Type 0 where
  pub run : Run
  pub seen : IsSeenAs h run
  pub are : AreJudged (lines h.course.output) run properties judged

-- no property is broken
abbrev pub are_all_kept : List (Option ℕ) → Bool
are_all_kept judged = list_all is_none judged

-- the numbers of the properties that are broken, of which the first has this number, as details of how the run ended
abbrev pub break_details : ℕ → List (Option ℕ) → List Detail
break_details n [] = []
break_details n (None ∷ judged) = break_details (suc n) judged
break_details n (Some line ∷ judged) = Breaks n ∷ break_details (suc n) judged

-- By these details two runs are held against one another where it is to be told how they stop: of the threads that ended at faults how they did, and
-- which properties are broken.
pub record AreStopDetails (properties : List Property) (h : Kept) (details : List Detail) : Type 0 where
  pub own : List Detail
  pub own_are : AreFallenDetails h own
  pub judged : List (Option ℕ)
  pub judged_so : IsJudgedAlone properties h judged
  pub details_are : details ≡ own ++ break_details 0 judged

-- and where it is to be told how they ended
pub record AreEndDetails (properties : List Property) (h : Kept) (details : List Detail) : Type 0 where
  pub own : List Detail
  pub own_are : AreDetails h own
  pub judged : List (Option ℕ)
  pub judged_so : IsJudgedAlone properties h judged
  pub details_are : details ≡ own ++ break_details 0 judged

-- These are the details of how the run of a hub ended, and behind them those of the properties that it breaks.
pub record AreDetailsWith (wanted : Wanted) (h : Kept) (details : List Detail) : Type 0 where
  pub own : List Detail
  pub own_are : AreDetails h own
  pub judged : List (Option ℕ)
  pub judged_so : IsJudgedAt wanted h judged
  pub details_are : details ≡ own ++ break_details 0 judged
