use Rattle.std.proofs.Common.{◌≡◌, ◌∙◌, ◌<◌, true, false, Bool, cond, [], ◌∷◌, length, Some, zero, suc, ℕ, ap, refl, sym, subst, arith}
use Rattle.std.specs.Prelude.{slice_get}
use Rattle.std.specs.Option.{option_map}
use Rattle.std.proofs.lemmas.Option.{slice_get-map}
use Rattle.std.proofs.lemmas.List.{length-map}
use Rattle.cml_scan.specs.Scan.{offers_of}
use Rattle.cml_index.specs.Heads.{pair_of}
use Rattle.cml_index.specs.Posts as spec
use Rattle.cml_index.specs.Waits.{lit_wait, rows_by_lane}
use Rattle.cml_index.proofs.partners.row_at.Goals as goal

-- a list of one at most has its only element first
only_one : {X : Type 0} (b : Bool) (x : X) (j : ℕ) → j < length (cond b (x ∷ []) []) → slice_get (cond b (x ∷ []) []) j ≡ Some x
only_one true x zero within = refl
only_one true x (suc j) within = absurd (omega (arith, within))
only_one false x j within = absurd (omega (arith, within))

pub other_at-other-requires-clause-within : goal.other_at-other-requires-clause-within
other_at-other-requires-clause-within c =
    let told = spec.told c.args.core.now.flags.entries in
    let os = offers_of c.args.core.now.entries.items in
    let same = ap (λ m. length (rows_by_lane told os c.args.head c.args.wait m)) (sym c.met_by.ensures ∙ c.in-Some.is) ∙ length-map _ (pair_of c.args.head) in
    subst (λ n. c.args.j < n) same c.requires.within

pub returns-in-Some-clause-value : goal.returns-in-Some-clause-value
returns-in-Some-clause-value c =
    let told = spec.told c.args.core.now.flags.entries in
    let os = offers_of c.args.core.now.entries.items in
    ap (λ m. slice_get (rows_by_lane told os c.args.head c.args.wait m) c.args.j) (sym c.met_by.ensures ∙ c.in-Some.is)
    ∙ slice_get-map (pair_of c.args.head) _ c.args.j
    ∙ ap (option_map (pair_of c.args.head)) c.other_at-other.ensures.value

pub returns-in-None-clause-value : goal.returns-in-None-clause-value
returns-in-None-clause-value c =
    let told = spec.told c.args.core.now.flags.entries in
    let os = offers_of c.args.core.now.entries.items in
    let same = ap (rows_by_lane told os c.args.head c.args.wait) (sym c.met_by.ensures ∙ c.in-None.is) in
    ap (λ rs. slice_get rs c.args.j) same ∙ only_one (lit_wait told c.args.wait) _ c.args.j (subst (λ rs. c.args.j < length rs) same c.requires.within)
