-- The properties that the arguments give.
use Rattle.std.proofs.Common.{◌≡◌, ◌∙◌, ◌⊎◌, ◌+◌, ◌<◌, ◌≤◌, ◌++◌, ◌∷◌, [], ℕ, zero, suc, Bool, true, false, List, MatchBool, Result, Ok, Err, Some}
use Rattle.std.proofs.Common.{map, take, length, get_or, append_assoc, inl, inr, refl, sym, ap, subst, arith}
use Rattle.std.specs.Prelude.{IfErr, nat_lt}
use Rattle.std.proofs.lemmas.Bool.Decides.{nat_tests}
use Rattle.std.proofs.lemmas.List.{take_more, map_push}
use Rattle.cml_check.specs.Syntax.{Name}
use Rattle.cml_text.specs.Lines.{lines}
use Rattle.cml_text.specs.Sizes.{text_limit}
use Rattle.cml_text.specs.declared.fault.FaultKind.TheVariants.{Long}
use Rattle.cml_properties.specs.Reading.{LinesSay, PatternsGive, TextSays}
use Rattle.cml_properties.specs.declared.fault.PropertyFault.{PropertyFault}
use Rattle.cml_properties.specs.declared.fault.PropertyFault.TheVariants.{At}
use Rattle.cml_properties.specs.declared.fault.PropertyFaultKind.TheVariants.{Text}
use Rattle.cml_properties.specs.declared.kind.PropertyKind.{PropertyKind}
use Rattle.cml_properties.specs.declared.property.Property.{Property}
use Rattle.cml_host.specs.Refused.{RefusesAs}
use Rattle.cml_host.specs.Scripts.{IsWholeText}
use Rattle.cml_host.specs.Stores.{Content, unknown, nothing, bytes, IsLoaded}
use Rattle.cml_host.specs.Wanted.{AreGiven, IsBadPattern, IsNoPattern, SaysNone}
use Rattle.cml_host.specs.declared.refusal.Refusal.{Refusal}
use Rattle.cml_host.proofs.RefusedLemmas.{wrong_on}
use Rattle.cml_host.proofs.TextLemmas.{all_or_long}

-- ---- the texts of one kind

given_push : (kind : PropertyKind) (texts : List Name) (more : List Property) (text : Name) (found : Property) → AreGiven kind texts more → PatternsGive kind 0 0 text (Ok found)
    → AreGiven kind (texts ++ text ∷ []) (more ++ found ∷ [])
given_push kind [] [] text found are is = (is, tt)
given_push kind [] (m ∷ more) text found are is = absurd are
given_push kind (t ∷ texts) [] text found are is = absurd are
given_push kind (t ∷ texts) (m ∷ more) text found are is = (are.0, given_push kind texts more text found are.1 is)

-- one text more
pub given_next : {A : Type 0} (f : A → Name) (kind : PropertyKind) (texts : List A) (i : ℕ) (d : A) (more : List Property) (found : Property) → i < length texts
    → AreGiven kind (map f (take i texts)) more → PatternsGive kind 0 0 (f (get_or texts i d)) (Ok found) → AreGiven kind (map f (take (i + 1) texts)) (more ++ found ∷ [])
given_next f kind texts i d more found within are gives =
    let split : map f (take (i + 1) texts) ≡ map f (take i texts) ++ f (get_or texts i d) ∷ [] = ap (map f) (take_more texts i d within) ∙ map_push f (take i texts) (get_or texts i d) in
    subst (λ (ts : List Name). AreGiven kind ts (more ++ found ∷ [])) (sym split) (given_push kind (map f (take i texts)) more (f (get_or texts i d)) found are gives)

-- a text, and those behind it
parted : {A : Type 0} (f : A → Name) (texts : List A) (i : ℕ) (d : A) → i < length texts → (after : List Name) × (map f texts ≡ map f (take i texts) ++ f (get_or texts i d) ∷ after)
parted f [] i d within = absurd (omega (arith, within))
parted f (y ∷ texts) zero d within = (map f texts, refl)
parted f (y ∷ texts) (suc i) d within = let rest = parted f texts i d (omega (arith, within)) in (rest.0, ap (λ (ts : List Name). f y ∷ ts) rest.1)

bad_behind : (explains : Bool) (kind : PropertyKind) (before : List Name) (more : List Property) (text : Name) (after : List Name) (told : List ℕ) (status : ℕ) → AreGiven kind before more
    → IsBadPattern explains kind text told status → IsNoPattern explains kind (before ++ text ∷ after) told status
bad_behind explains kind [] more text after told status are bad = inl bad
bad_behind explains kind (t ∷ before) [] text after told status are bad = absurd are
bad_behind explains kind (t ∷ before) (m ∷ more) text after told status are bad = inr ((m, are.0), bad_behind explains kind before more text after told status are.1 bad)

-- the text of this number is the first that gives none
pub no_pattern : {A : Type 0} (f : A → Name) (explains : Bool) (kind : PropertyKind) (texts : List A) (i : ℕ) (d : A) (more : List Property) (told : List ℕ) (status : ℕ)
    → i < length texts → AreGiven kind (map f (take i texts)) more → IsBadPattern explains kind (f (get_or texts i d)) told status → IsNoPattern explains kind (map f texts) told status
no_pattern f explains kind texts i d more told status within are bad =
    let split = parted f texts i d within in
    subst (λ (ts : List Name). IsNoPattern explains kind ts told status) (sym split.1)
    (bad_behind explains kind (map f (take i texts)) more (f (get_or texts i d)) split.0 told status are bad)

-- what is wrong with it was handed on
pub bad_text : {A B : Type 0} (f : A → Name) (explains : Bool) (kind : PropertyKind) (texts : List A) (i : ℕ) (d : A) (more : List Property) (r : Result B Refusal) (why : Refusal)
    → i < length texts → AreGiven kind (map f (take i texts)) more → r ≡ Err why → RefusesAs (IsBadPattern explains kind (f (get_or texts i d))) why
    → IfErr r (RefusesAs (IsNoPattern explains kind (map f texts)))
bad_text f explains kind texts i d more r why within are is wrong =
    wrong_on (IsBadPattern explains kind (f (get_or texts i d))) (IsNoPattern explains kind (map f texts))
    (λ told status bad. no_pattern f explains kind texts i d more told status within are bad) r why is wrong

-- ---- the text of a file

limits_long : (text : List ℕ) → text_limit < length text → nat_lt text_limit (length text) ≡ true
limits_long text long = grind (arith, nat_tests)

-- what the first bytes of a text that lies there say, it says itself
whole_says : (all found : List ℕ) (given : Result (List Property) PropertyFault) → found ≡ take (text_limit + 1) all → TextSays found given → TextSays all given
whole_says all found given is says = go (all_or_long text_limit all)
  where
    go : (take (text_limit + 1) all ≡ all) ⊎ ((text_limit < length all) × (text_limit < length (take (text_limit + 1) all))) → TextSays all given
    go (inl same) = subst (λ (t : List ℕ). TextSays t given) (is ∙ same) says
    go (inr long) =
        let here = subst (λ (t : List ℕ). TextSays t given) is says in
        let part = subst (λ (b : Bool). MatchBool b (given ≡ Err (At (Text Long) text_limit)) (LinesSay 0 (lines (take (text_limit + 1) all)) given)) (limits_long _ long.1) here in
        subst (λ (b : Bool). MatchBool b (given ≡ Err (At (Text Long) text_limit)) (LinesSay 0 (lines all) given)) (sym (limits_long all long.0)) part

pub says_there : (content : Content) (found : List ℕ) (given : Result (List Property) PropertyFault) → IsLoaded content text_limit found → TextSays found given
    → (text : List ℕ) × IsWholeText content text × TextSays text given
says_there unknown found given loaded says = (found, tt, says)
says_there nothing found given loaded says = absurd loaded
says_there (bytes all) found given loaded says = (all, refl, whole_says all found given loaded says)

-- or what is wrong with it
pub none_there : (explains : Bool) (content : Content) (found slice told : List ℕ) (status : ℕ) → IsLoaded content text_limit found → slice ≡ found → SaysNone explains slice told status
    → (text : List ℕ) × IsWholeText content text × SaysNone explains text told status
none_there explains content found slice told status loaded same none =
    let given : Result (List Property) PropertyFault = Err (At none.0 none.1) in
    let whole = says_there content found given loaded (subst (λ (ts : List ℕ). TextSays ts given) same none.2) in
    (whole.0, whole.1, (none.0, none.1, whole.2, none.3, none.4))

-- ---- all of them, one kind after another

pub all_found : (never always once before same order empty more one two three four five six seven eight : List Property) → one ≡ [] ++ never → two ≡ one ++ always → three ≡ two ++ once
    → four ≡ three ++ before → five ≡ four ++ same → six ≡ five ++ order → seven ≡ six ++ empty → eight ≡ seven ++ more
    → eight ≡ (never ++ (always ++ (once ++ (before ++ (same ++ (order ++ (empty ++ more)))))))
all_found never always once before same order empty more one two three four five six seven eight e1 e2 e3 e4 e5 e6 e7 e8 =
    e8 ∙ (ap (λ l. l ++ more) (e7 ∙ ap (λ l. l ++ empty) (e6 ∙ ap (λ l. l ++ order) (e5 ∙ ap (λ l. l ++ same) (e4 ∙ ap (λ l. l ++ before) (e3 ∙ ap (λ l. l ++ once) (e2 ∙ ap (λ l. l ++ always) e1))))))
    ∙ simp append_assoc)
