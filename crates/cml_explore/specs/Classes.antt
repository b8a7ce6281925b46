-- Runs in classes of those that ended alike.
use Rattle.std.specs.Prelude.{ℕ, suc, ◌+◌, if◌then◌else◌, nat_lt, nat_eq, List, [], ◌∷◌, ◌++◌, length}
use Rattle.std.specs.List.{list_any}
use Rattle.std.specs.Cmp.Lexicographic.{pointwise}
use Rattle.cml_schedule.specs.declared.item.Item.{Item}
use Rattle.cml_facts.specs.declared.fault.detail.Detail.{Detail}
use Rattle.cml_facts.specs.Details.{alike}

-- How a run ended: the details, the digest of its output, and its schedule.
pub record Finish : Type 0 where
  pub details : List Detail
  pub digest : List ℕ
  pub items : List Item

-- What is kept of the runs of a class: how many there are, the seed of the first and the number of its items, the digests of the outputs, none
-- twice, and the shortest schedule, the first one of those.
pub record PlainSummary : Type 0 where
  pub runs : ℕ
  pub first : ℕ
  pub items : ℕ
  pub outputs : List (List ℕ)
  pub shortest : List Item

-- a class: the details that its runs share, and what is kept of them
pub record PlainClass : Type 0 where
  pub details : List Detail
  pub summary : PlainSummary

-- the digests, and this one, if it is not among them
abbrev pub with_digest : List (List ℕ) → List ℕ → List (List ℕ)
with_digest outputs digest = if list_any (pointwise nat_eq digest) outputs then outputs else outputs ++ digest ∷ []

-- the shorter schedule; the older one, where both are as long
abbrev pub shorter : List Item → List Item → List Item
shorter old new = if nat_lt (length new) (length old) then new else old

-- the first run of a class, by this seed
abbrev pub first_run : ℕ → Finish → PlainSummary
first_run seed end = record { runs = 1; first = seed; items = length end.items; outputs = end.digest ∷ []; shortest = end.items }

-- one run more of a class
abbrev pub grown : PlainSummary → Finish → PlainSummary
grown t end = record t { runs = t.runs + 1; outputs = with_digest t.outputs end.digest; shortest = shorter t.shortest end.items }

-- One run more, by this seed: it joins the class of those that ended alike; where there is none, it is the first of a class, which comes last.
abbrev pub classed : ℕ → Finish → List PlainClass → List PlainClass
classed seed end [] = record { details = end.details; summary = first_run seed end } ∷ []
classed seed end (c ∷ cs) =
    if alike end.details c.details then record c { summary = grown c.summary end } ∷ cs else c ∷ classed seed end cs

-- the classes, and these runs, by one seed after another from this one on
abbrev pub classed_all : ℕ → List Finish → List PlainClass → List PlainClass
classed_all seed [] cs = cs
classed_all seed (end ∷ ends) cs = classed_all (suc seed) ends (classed seed end cs)

-- The classes of these runs.
abbrev pub classes_of : ℕ → List Finish → List PlainClass
classes_of first ends = classed_all first ends []

-- ---- what private functions say

-- the classes with these details, each with what is kept of it
abbrev pub with_details : List (List Detail) → List PlainSummary → List PlainClass
with_details [] ts = []
with_details (d ∷ ds) [] = []
with_details (d ∷ ds) (t ∷ ts) = record { details = d; summary = t } ∷ with_details ds ts
