-- How long an output has to be for what was printed to break a property.
use Rattle.std.proofs.Common.{◌≡◌, ◌⊎◌, ℕ, zero, suc, ◌+◌, ◌<◌, ◌≤◌, ◌==◌, Bool, true, false, not, cond, ◌||◌}
use Rattle.std.proofs.Common.{List, [], ◌∷◌, ◌++◌, length, get_or, take, drop, map, Option, Some, None, refl, sym, ap, ◌∙◌, subst, arith, inl, inr}
use Rattle.std.specs.Prelude.{◌↔◌, nat_lt, min, IsTrue, MatchOption}
use Rattle.std.specs.List.{All}
use Rattle.std.proofs.lemmas.Bool.{cases_lt, lt-ltb, le-ltb, both_ways, not-false, or_right}
use Rattle.std.proofs.lemmas.List.{length-append, take-append-le, take-append-drop, take_all}
use Rattle.std.proofs.lemmas.List.Elements.{All-head, All-tail, All-take}
use Rattle.std.proofs.lemmas.List.Sorted.{IsPermutation-refl}
use Rattle.cml_text.specs.Forms.{PlainSexpr}
use Rattle.cml_text.specs.Laws.{SpellsOneAtMost}
use Rattle.cml_text.specs.Lines.{lines}
use Rattle.cml_properties.specs.Agreements.{Agree}
use Rattle.cml_properties.specs.Breaches.{AreLinesOf}
use Rattle.cml_properties.specs.Judged.{IsJudged, AreJudged}
use Rattle.cml_properties.specs.Lines.{PlainLine, IsValueOf}
use Rattle.cml_properties.specs.Properties.{keeps}
use Rattle.cml_properties.specs.Watches.{BreaksAt}
use Rattle.cml_properties.specs.declared.breach.Run.{Run}
use Rattle.cml_properties.specs.declared.property.Finish.{Finish}
use Rattle.cml_properties.specs.declared.property.Finish.TheVariants.{GoesOn}
use Rattle.cml_properties.specs.declared.property.Property.{Property}
use Rattle.cml_properties.specs.declared.property.Property.TheVariants.{Never, Always, Once, Before, SameLines, SameOrder, Empty}
use Rattle.cml_properties.proofs.HoldLemmas.{kept_front, kept_sooner}
use Rattle.cml_judge.specs.Spots.{line_start}
use Rattle.cml_judge.specs.Stops.{BreaksOne, earlier, earliest, is_place_within}
use Rattle.cml_judge.proofs.LineLemmas.{AreLines, lines_of_both, within_by_byte}

-- ---- the lines of a text, each with its value, are what they are

abbrev HasItsValue : PlainLine → Type 0
HasItsValue line = IsValueOf line.text line.value

same_value : SpellsOneAtMost → (text : List ℕ) (a b : Option PlainSexpr) → IsValueOf text a → IsValueOf text b → a ≡ b
same_value once text (Some f) (Some g) x y = let both : f ∷ [] ≡ g ∷ [] = once text (f ∷ []) (g ∷ []) x y in cc
same_value once text (Some f) None x y = absurd (y f x)
same_value once text None (Some g) x y = absurd (x g y)
same_value once text None None x y = refl

same_line : (a b : PlainLine) → a.text ≡ b.text → a.value ≡ b.value → a ≡ b
same_line a b text value =
    let by_text : List ℕ → PlainLine = λ t. record { text = t; value = a.value } in
    let by_value : Option PlainSexpr → PlainLine = λ v. record { text = b.text; value = v } in
    ap by_text text ∙ ap by_value value

same_printed : SpellsOneAtMost → (ps qs : List PlainLine) → map (λ line. line.text) ps ≡ map (λ line. line.text) qs → All HasItsValue ps → All HasItsValue qs → ps ≡ qs
same_printed once [] [] e x y = refl
same_printed once [] (q ∷ qs) e x y = cc
same_printed once (p ∷ ps) [] e x y = cc
same_printed once (p ∷ ps) (q ∷ qs) e x y =
    let text : p.text ≡ q.text = cc in
    let rest : map (λ line. line.text) ps ≡ map (λ line. line.text) qs = cc in
    let value : p.value ≡ q.value =
    same_value once p.text p.value q.value (All-head HasItsValue p ps x) (subst (λ (t : List ℕ). IsValueOf t q.value) (sym text) (All-head HasItsValue q qs y)) in
    let first : p ≡ q = same_line p q text value in
    let others : ps ≡ qs = same_printed once ps qs rest (All-tail HasItsValue p ps x) (All-tail HasItsValue q qs y) in
    ap (λ l. l ∷ ps) first ∙ ap (λ ls. q ∷ ls) others

same_lines_of : SpellsOneAtMost → (bytes : List (List ℕ)) (ps qs : List PlainLine) → AreLinesOf bytes ps → AreLinesOf bytes qs → ps ≡ qs
same_lines_of once bytes ps qs x y = same_printed once ps qs (x.texts ∙ sym y.texts) x.values y.values

take_texts : (n : ℕ) (ps : List PlainLine) → map (λ line. line.text) (take n ps) ≡ take n (map (λ line. line.text) ps)
take_texts zero ps = refl
take_texts (suc n) [] = refl
take_texts (suc n) (p ∷ ps) = ap (λ ts. p.text ∷ ts) (take_texts n ps)

first_lines : (xs ys : List (List ℕ)) (printed : List PlainLine) → AreLinesOf (xs ++ ys) printed → AreLinesOf xs (take (length xs) printed)
first_lines xs ys printed are = record {
  texts =
      take_texts (length xs) printed
      ∙ (ap (take (length xs)) are.texts ∙ (take-append-le (length xs) xs ys (omega arith) ∙ take_all (length xs) xs (omega arith)));
  values = All-take HasItsValue (length xs) printed are.values;
}

-- a run prints like itself
agree_self : (property : Property) (ls : List (List ℕ)) → Agree property ls ls
agree_self (Never p) ls = tt
agree_self (Always p) ls = tt
agree_self (Once p) ls = tt
agree_self (Before f q) ls = tt
agree_self SameLines ls = IsPermutation-refl ls
agree_self SameOrder ls = refl
agree_self Empty ls = tt

-- ---- one property

same_either : (b : Bool) (finish : Finish) → finish ≡ GoesOn → cond b finish GoesOn ≡ GoesOn
same_either true finish same = same
same_either false finish same = refl

not_so : (b : Bool) → (b ≡ true → ⊥) → b ≡ false
not_so true none = absurd (none refl)
not_so false none = refl

-- so many lines of a run break a property exactly if the line is among them at which it breaks
broken_within : (property : Property) (printed : List PlainLine) (finish : Finish) (n line : ℕ) → finish ≡ GoesOn → BreaksAt property printed finish line →
    keeps property (take n printed) GoesOn ≡ not (nat_lt line n)
broken_within property printed finish n line goes_on b =
    let broken : keeps property (take (line + 1) printed) GoesOn ≡ false =
    ap (λ f. keeps property (take (line + 1) printed) f) (sym (same_either (line == length printed) finish goes_on)) ∙ b.broken in
    elim (cases_lt line n) [
      | inl lt ↦
          not_so (keeps property (take n printed) GoesOn)
          (λ kept. both_ways (keeps property (take (line + 1) printed) GoesOn) broken (kept_sooner property printed (line + 1) n (omega arith) kept))
          ∙ sym (ap not (lt-ltb line n lt))
      | inr le ↦ kept_sooner property printed n line le b.kept ∙ sym (ap not (le-ltb line n le))
    ]

kept_within : (property : Property) (printed : List PlainLine) (finish : Finish) (n : ℕ) → finish ≡ GoesOn → keeps property printed finish ≡ true →
    keeps property (take n printed) GoesOn ≡ true
kept_within property printed finish n goes_on kept =
    kept_front property (take n printed) (drop n printed)
    (ap (λ xs. keeps property xs GoesOn) (take-append-drop n printed) ∙ ap (λ f. keeps property printed f) (sym goes_on) ∙ kept)

-- An output that goes on behind whole lines, and the run that printed it.
pub record GoesOnBehind (text begin : List ℕ) (run : Run) : Type 0 where
  pub more : List ℕ
  pub split : text ≡ begin ++ more
  pub whole : AreLines begin
  pub output : run.output.now ≡ text
  pub going : run.finish ≡ GoesOn

lines_split : (text begin : List ℕ) (run : Run) (g : GoesOnBehind text begin run) → lines run.output.now ≡ lines begin ++ lines g.more
lines_split text begin run g = ap lines (g.output ∙ g.split) ∙ lines_of_both begin g.more g.whole

begin_lines : (text begin : List ℕ) (run : Run) → GoesOnBehind text begin run → (all : List PlainLine) → AreLinesOf (lines run.output.now) all →
    AreLinesOf (lines begin) (take (length (lines begin)) all)
begin_lines text begin run g all are =
    first_lines (lines begin) (lines g.more) all (subst (λ (ls : List (List ℕ)). AreLinesOf ls all) (lines_split text begin run g) are)

tells_one : SpellsOneAtMost → (text begin : List ℕ) (run : Run) → GoesOnBehind text begin run → (property : Property) (line : Option ℕ) (printed : List PlainLine) →
    IsJudged (lines text) run property line → AreLinesOf (lines begin) printed → keeps property printed GoesOn ≡ not (is_place_within line (length (lines begin)))
tells_one once text begin run g property None printed k are =
    let same : printed ≡ take (length (lines begin)) k.printed =
    same_lines_of once (lines begin) printed (take (length (lines begin)) k.printed) are (begin_lines text begin run g k.printed k.are) in
    ap (λ ps. keeps property ps GoesOn) same ∙ kept_within property k.printed run.finish (length (lines begin)) g.going k.kept
tells_one once text begin run g property (Some line) printed (inl b) are =
    let same : printed ≡ take (length (lines begin)) b.printed =
    same_lines_of once (lines begin) printed (take (length (lines begin)) b.printed) are (begin_lines text begin run g b.printed b.are) in
    ap (λ ps. keeps property ps GoesOn) same ∙ broken_within property b.printed run.finish (length (lines begin)) line g.going b.broken
tells_one once text begin run g property (Some line) printed (inr apart) are =
    absurd (apart.0 (subst (λ (ls : List (List ℕ)). Agree property (lines text) ls) (ap lines (sym g.output)) (agree_self property (lines text))))

-- the lines so far, each with its value
lines_so_far : (text begin : List ℕ) (run : Run) → GoesOnBehind text begin run → (property : Property) (line : Option ℕ) → IsJudged (lines text) run property line →
    (printed : List PlainLine) × AreLinesOf (lines begin) printed
lines_so_far text begin run g property None k = (take (length (lines begin)) k.printed, begin_lines text begin run g k.printed k.are)
lines_so_far text begin run g property (Some line) (inl b) = (take (length (lines begin)) b.printed, begin_lines text begin run g b.printed b.are)
lines_so_far text begin run g property (Some line) (inr apart) =
    absurd (apart.0 (subst (λ (ls : List (List ℕ)). Agree property (lines text) ls) (ap lines (sym g.output)) (agree_self property (lines text))))

-- ---- all properties

or_nothing : (b : Bool) → b ≡ (b || false)
or_nothing true = refl
or_nothing false = refl

earlier_within : (a b : Option ℕ) (n : ℕ) → is_place_within (earlier a b) n ≡ (is_place_within a n || is_place_within b n)
earlier_within None b n = refl
earlier_within (Some a) None n = or_nothing (nat_lt a n)
earlier_within (Some a) (Some b) n =
    elim (cases_lt a n) [
      | inl x ↦ lt-ltb (min a b) n (omega arith) ∙ sym (ap (λ t. t || nat_lt b n) (lt-ltb a n x))
      | inr x ↦
          elim (cases_lt b n) [
            | inl y ↦ lt-ltb (min a b) n (omega arith) ∙ sym (ap (λ t. t || nat_lt b n) (le-ltb a n x) ∙ lt-ltb b n y)
            | inr y ↦ le-ltb (min a b) n (omega arith) ∙ sym (ap (λ t. t || nat_lt b n) (le-ltb a n x) ∙ le-ltb b n y)
          ]
    ]

or_either : (a b : Bool) → (a || b) ≡ true → (a ≡ true) ⊎ (b ≡ true)
or_either true b e = inl refl
or_either false b e = inr e

not_not_so : (a b : Bool) → a ≡ not b → a ≡ false → b ≡ true
not_not_so a b e broken = not-false b (sym e ∙ broken)

past_if_broken : SpellsOneAtMost → (text begin : List ℕ) (run : Run) → GoesOnBehind text begin run → (properties : List Property) (judged : List (Option ℕ)) →
    AreJudged (lines text) run properties judged → (property : Property) (k : ℕ) → k < length properties → get_or properties k property ≡ property →
    (printed : List PlainLine) → AreLinesOf (lines begin) printed → keeps property printed GoesOn ≡ false → is_place_within (earliest judged) (length (lines begin)) ≡ true
past_if_broken once text begin run g [] judged so property k lt at printed are broken = absurd (omega arith)
past_if_broken once text begin run g (p ∷ ps) [] so property k lt at printed are broken = absurd so
past_if_broken once text begin run g (p ∷ ps) (line ∷ judged) so property zero lt at printed are broken =
    let n = length (lines begin) in
    let here : is_place_within line n ≡ true =
    not_not_so (keeps p printed GoesOn) (is_place_within line n) (tells_one once text begin run g p line printed so.0 are) (ap (λ q. keeps q printed GoesOn) at ∙ broken) in
    earlier_within line (earliest judged) n ∙ ap (λ t. t || is_place_within (earliest judged) n) here
past_if_broken once text begin run g (p ∷ ps) (line ∷ judged) so property (suc k) lt at printed are broken =
    let n = length (lines begin) in
    earlier_within line (earliest judged) n
    ∙ or_right (is_place_within line n) (is_place_within (earliest judged) n) (past_if_broken once text begin run g ps judged so.1 property k (omega arith) at printed are broken)

broken_if_past : SpellsOneAtMost → (text begin : List ℕ) (run : Run) → GoesOnBehind text begin run → (properties : List Property) (judged : List (Option ℕ)) →
    AreJudged (lines text) run properties judged → is_place_within (earliest judged) (length (lines begin)) ≡ true → BreaksOne properties begin
broken_if_past once text begin run g [] [] so past = cc
broken_if_past once text begin run g [] (line ∷ judged) so past = absurd so
broken_if_past once text begin run g (p ∷ ps) [] so past = absurd so
broken_if_past once text begin run g (p ∷ ps) (line ∷ judged) so past =
    let n = length (lines begin) in
    elim (or_either (is_place_within line n) (is_place_within (earliest judged) n) (sym (earlier_within line (earliest judged) n) ∙ past)) [
      | inl here ↦
          let own = lines_so_far text begin run g p line so.0 in
          (p, (0, omega arith, refl), (own.0, own.1, tells_one once text begin run g p line own.0 so.0 own.1 ∙ ap not here))
      | inr behind ↦
          let rest = broken_if_past once text begin run g ps judged so.1 behind in
          (rest.0, (suc rest.1.0, omega (arith, rest.1.1), rest.1.2), rest.2)
    ]

-- ---- by the byte at which the line begins

-- The line begins at this byte, if there is such a line.
abbrev pub StartsSo : List ℕ → Option ℕ → Option ℕ → Type 0
StartsSo text None at = at ≡ None
StartsSo text (Some line) at = MatchOption at (length (lines text) ≤ line) (λ byte. (line < length (lines text)) × (byte ≡ line_start (lines text) line))

by_byte : (text begin more : List ℕ) (line at : Option ℕ) → StartsSo text line at → text ≡ begin ++ more → AreLines begin →
    is_place_within line (length (lines begin)) ≡ is_place_within at (length begin)
by_byte text begin more None at none split whole = ap (λ a. is_place_within a (length begin)) (sym none)
by_byte text begin more (Some line) None few split whole =
    le-ltb line (length (lines begin)) (omega (arith, ap length (ap lines split ∙ lines_of_both begin more whole), length-append (lines begin) (lines more)))
by_byte text begin more (Some line) (Some byte) there split whole =
    within_by_byte text begin more line split whole there.0 ∙ ap (λ b. nat_lt b (length begin)) (sym there.1)

pub tells_begin : SpellsOneAtMost → (text begin : List ℕ) (run : Run) → GoesOnBehind text begin run → (properties : List Property) (judged : List (Option ℕ)) (at : Option ℕ) →
    AreJudged (lines text) run properties judged → StartsSo text (earliest judged) at → BreaksOne properties begin ↔ IsTrue (is_place_within at (length begin))
tells_begin once text begin run g properties judged at so starts =
    let same = by_byte text begin g.more (earliest judged) at starts g.split g.whole in (
      λ broken. sym same ∙ past_if_broken once text begin run g properties judged so broken.0 broken.1.0 broken.1.1 broken.1.2 broken.2.0 broken.2.1 broken.2.2,
      λ past. broken_if_past once text begin run g properties judged so (same ∙ past),
    )
