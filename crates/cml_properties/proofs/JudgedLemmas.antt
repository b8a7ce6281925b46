-- How the properties of one run are judged, one after another.
use Rattle.std.proofs.Common.{◌≡◌, ℕ, ◌+◌, ◌<◌, ◌≤◌, ◌==◌, Bool, true, false, List, [], ◌∷◌, ◌++◌, length, get_or, drop, Option, Some, None, refl, ap, sym, ◌∙◌, subst, inl, inr}
use Rattle.std.specs.Prelude.{◌↔◌, IsTrue, IsNone, IfSome}
use Rattle.std.proofs.lemmas.List.{append_assoc, append-nil, drop_all, drop_more, nil_from_length}
use Rattle.std.proofs.lemmas.Bool.{both_ways, eqb-true}
use Rattle.cml_text.specs.Lines.{lines}
use Rattle.cml_properties.specs.declared.breach.Run.{Run}
use Rattle.cml_properties.specs.declared.property.Property.{Property}
use Rattle.cml_properties.specs.Agreements.{Agree}
use Rattle.cml_properties.specs.Breaches.{AreLinesOf}
use Rattle.cml_properties.specs.Judged.{IsJudged, AreJudged}
use Rattle.cml_properties.specs.Lines.{PlainLine}
use Rattle.cml_properties.specs.Properties.{keeps}
use Rattle.cml_properties.specs.Watches.{BreaksAt}

-- What is said of the properties that are left, behind what was said, is said of all.
abbrev pub JudgedOn : List (List ℕ) → Run → List Property → ℕ → List (Option ℕ) → Type 0
JudgedOn first run properties i judged =
    (others : List (Option ℕ)) → AreJudged first run (drop i properties) others → AreJudged first run properties (judged ++ others)

-- one property more
pub judged_next : (first : List (List ℕ)) (run : Run) (properties : List Property) (i : ℕ) (property : Property) (line : Option ℕ) (judged new : List (Option ℕ)) →
    i < length properties → property ≡ get_or properties i property → IsJudged first run property line → new ≡ judged ++ line ∷ [] →
    JudgedOn first run properties i judged → JudgedOn first run properties (i + 1) new
judged_next first run properties i property line judged new lt is says grown on = λ others are.
    let one : IsJudged first run (get_or properties i property) line = subst (λ (p : Property). IsJudged first run p line) is says in
    let here : AreJudged first run (drop i properties) (line ∷ others) =
    subst (λ (ps : List Property). AreJudged first run ps (line ∷ others)) (sym (drop_more properties i property lt)) (one, are) in
    let same : judged ++ (line ∷ others) ≡ new ++ others = sym (append_assoc judged (line ∷ []) others) ∙ ap (λ ls. ls ++ others) (sym grown) in
    subst (λ (ls : List (Option ℕ)). AreJudged first run properties ls) same (on (line ∷ others) here)

-- all properties
pub judged_all : (first : List (List ℕ)) (run : Run) (properties : List Property) (i : ℕ) (judged : List (Option ℕ)) → length properties ≤ i →
    JudgedOn first run properties i judged → AreJudged first run properties judged
judged_all first run properties i judged le on =
    let none : AreJudged first run [] [] = tt in
    subst (λ (ls : List (Option ℕ)). AreJudged first run properties ls) (append-nil judged)
    (on [] (subst (λ (ps : List Property). AreJudged first run ps []) (sym (drop_all i properties le)) none))

-- of none there is nothing to say
pub judged_none : (first : List (List ℕ)) (run : Run) (properties : List Property) (judged : List (Option ℕ)) → (length properties == 0) ≡ true → judged ≡ [] →
    AreJudged first run properties judged
judged_none first run properties judged none nothing =
    let empty : properties ≡ [] = nil_from_length properties (eqb-true (length properties) 0 none) in
    let so : AreJudged first run [] [] = tt in
    subst (λ (ls : List (Option ℕ)). AreJudged first run properties ls) (sym nothing) (subst (λ (ps : List Property). AreJudged first run ps []) (sym empty) so)

-- a run that does not print like the first breaks the property at its end
pub judged_apart : (property : Property) (first own : List (List ℕ)) (run : Run) (alike : Bool) (n : ℕ) → own ≡ lines run.output.now →
    IsTrue alike ↔ Agree property first own → alike ≡ false → n ≡ length own → IsJudged first run property (Some n)
judged_apart property first own run alike n same says apart at =
    inr (λ agrees. both_ways alike apart (says.1 (subst (λ (ls : List (List ℕ)). Agree property first ls) (sym same) agrees)), at ∙ ap length same)

-- of one that does it is judged by its own lines
pub judged_alike : (property : Property) (first own : List (List ℕ)) (run : Run) (printed : List PlainLine) (line : Option ℕ) → own ≡ lines run.output.now →
    AreLinesOf own printed → Agree property first own → IsNone line ↔ IsTrue (keeps property printed run.finish) →
    IfSome line (BreaksAt property printed run.finish) → IsJudged first run property line
judged_alike property first own run printed None same are agrees kept broken = record {
  printed = printed;
  are = subst (λ (ls : List (List ℕ)). AreLinesOf ls printed) same are;
  kept = kept.0 refl;
  agrees = subst (λ (ls : List (List ℕ)). Agree property first ls) same agrees;
}
judged_alike property first own run printed (Some at) same are agrees kept broken =
    inl (record { printed = printed; are = subst (λ (ls : List (List ℕ)). AreLinesOf ls printed) same are; broken = broken })
