-- How lines are read one after another.
use Rattle.std.proofs.Common.{◌≡◌, ℕ, ◌+◌, ◌-◌, ◌≤◌, ◌==◌, suc, Bool, true, false, cond, List, [], ◌∷◌, ◌++◌, length, take, drop, Option, Result, Ok, Err}
use Rattle.std.proofs.Common.{refl, ap, sym, ◌∙◌, subst, arith, inl, inr}
use Rattle.std.specs.Prelude.{◌<◌, MatchBool, Vec}
use Rattle.std.specs.declared.alloc.Global.{Global}
use Rattle.std.proofs.lemmas.Bool.{le-ltb}
use Rattle.std.proofs.lemmas.List.{append_assoc, append-nil}
use Rattle.cml_text.specs.Sizes.{text_limit}
use Rattle.cml_text.specs.declared.fault.FaultKind.TheVariants.{Long}
use Rattle.cml_properties.specs.declared.fault.PropertyFault.TheVariants.{At, Memory}
use Rattle.cml_properties.specs.declared.fault.PropertyFaultKind.TheVariants.{Text}
use Rattle.std.specs.Prelude.{option_to_list}
use Rattle.std.specs.List.{sum_by, onto_first}
use Rattle.std.proofs.lemmas.List.Sums.{sum_by-cons}
use Rattle.std.specs.List.{prefix_len}
use Rattle.cml_text.specs.Lexemes.{is_token_byte}
use Rattle.cml_text.specs.Lines.{lines}
use Rattle.cml_properties.specs.Kinds.{kind_of}
use Rattle.cml_properties.specs.declared.kind.PropertyKind.{PropertyKind}
use Rattle.cml_properties.specs.declared.property.Property.{Property}
use Rattle.cml_properties.specs.declared.fault.PropertyFault.{PropertyFault}
use Rattle.cml_properties.specs.Reading.{is_blank_line, line_begun, WordGives, LineGives, said, LineSays, before_others, LinesSay, TextSays, read_properties, IfTold}

pub line_says : (at : ℕ) (line : List ℕ) (given : Result Property PropertyFault) → is_blank_line line ≡ false → LineGives at line given → LineSays at line (said given)
line_says at line given e gives = rw e (given, gives, refl)

-- properties in front of others
abbrev pub with_front : List Property → Result (List Property) PropertyFault → Result (List Property) PropertyFault
with_front front (Ok others) = Ok (front ++ others)
with_front front (Err fault) = Err fault

pub front_more : (front : List Property) (first : Option Property) (others : Result (List Property) PropertyFault) →
    with_front (front ++ option_to_list first) others ≡ with_front front (before_others first others)
front_more front first (Ok others) = ap Ok (append_assoc front (option_to_list first) others)
front_more front first (Err fault) = refl

-- the lines of a text, with a line feed after each, are longer than it by one byte at most
pub lines_fit : (text : List ℕ) → sum_by (λ line. length line + 1) (lines text) ≤ length text + 1
lines_fit [] = omega arith
lines_fit (b ∷ bytes) = fit_more (b == 10) b (lines bytes) (length bytes) (lines_fit bytes)
  where
    fit_more : (is_feed : Bool) (b : ℕ) (rest : List (List ℕ)) (n : ℕ) → sum_by (λ line. length line + 1) rest ≤ n + 1 →
        sum_by (λ line. length line + 1) (cond is_feed ([] ∷ rest) (onto_first b rest)) ≤ suc n + 1
    fit_more true b rest n h = omega (arith, sum_by-cons (λ line. length line + 1) [] rest)
    fit_more false b [] n h = omega arith
    fit_more false b (line ∷ rest) n h = omega (arith, sum_by-cons (λ line. length line + 1) line rest, sum_by-cons (λ line. length line + 1) (b ∷ line) rest)

-- in front of nothing
pub front_none : (others : Result (List Property) PropertyFault) → with_front [] others ≡ others
front_none (Ok others) = refl
front_none (Err fault) = refl

-- What the lines that are left say, behind what was found, the whole text says.
abbrev pub SaysOn : List ℕ → List Property → ℕ → List (List ℕ) → Type 0
SaysOn text front at left = (others : Result (List Property) PropertyFault) → LinesSay at left others → LinesSay 0 (lines text) (with_front front others)

pub says_first : (text : List ℕ) (front : List Property) (left : List (List ℕ)) → front ≡ [] → left ≡ lines text → SaysOn text front 0 left
says_first text front left none e = λ others says.
    subst (λ (f : Result (List Property) PropertyFault). LinesSay 0 (lines text) f) (sym (ap (λ ps. with_front ps others) none ∙ front_none others))
    (subst (λ (ls : List (List ℕ)). LinesSay 0 ls others) e says)

pub says_next : (text : List ℕ) (front front' : List Property) (at : ℕ) (left : List (List ℕ)) (line : List ℕ) (behind : List (List ℕ)) (first : Option Property) →
    left ≡ line ∷ behind → front' ≡ front ++ option_to_list first → SaysOn text front at left → LineSays at line (Ok first) → SaysOn text front' (at + (length line + 1)) behind
says_next text front front' at left line behind first e grown on says = λ others rest.
    let whole : LinesSay at (line ∷ behind) (before_others first others) = inr (first, others, says, rest, refl) in
    let step : LinesSay 0 (lines text) (with_front front (before_others first others)) =
    on (before_others first others) (subst (λ (ls : List (List ℕ)). LinesSay at ls (before_others first others)) (sym e) whole) in
    let same : with_front front' others ≡ with_front front (before_others first others) = ap (λ ps. with_front ps others) grown ∙ front_more front first others in
    subst (λ (f : Result (List Property) PropertyFault). LinesSay 0 (lines text) f) (sym same) step

-- the text is not too long, so it says what its lines say
says_short : (text : List ℕ) (found : Result (List Property) PropertyFault) → length text ≤ 1048576 → LinesSay 0 (lines text) found → TextSays text found
says_short text found le says =
    subst (λ (b : Bool). MatchBool b (found ≡ Err (At (Text Long) text_limit)) (LinesSay 0 (lines text) found)) (sym (le-ltb text_limit (length text) le)) says

abbrev long_fault : Result (List Property) PropertyFault
long_fault = Err (At (Text Long) text_limit)

-- no line is left
pub says_all : (text : List ℕ) (front : List Property) (at : ℕ) (left : List (List ℕ)) → length text ≤ 1048576 → left ≡ [] → SaysOn text front at left → TextSays text (Ok front)
says_all text front at left le e on =
    let nothing : LinesSay at [] (Ok []) = refl in
    let all : LinesSay 0 (lines text) (Ok (front ++ [])) = on (Ok []) (subst (λ (ls : List (List ℕ)). LinesSay at ls (Ok [])) (sym e) nothing) in
    says_short text (Ok front) le (subst (λ (ps : List Property). LinesSay 0 (lines text) (Ok ps)) (append-nil front) all)

-- a line is at fault
pub says_fault : (text : List ℕ) (front : List Property) (at : ℕ) (left : List (List ℕ)) (line : List ℕ) (behind : List (List ℕ)) (fault : PropertyFault) →
    length text ≤ 1048576 → left ≡ line ∷ behind → SaysOn text front at left → IfTold {A = Option Property} (Err fault) (LineSays at line) →
    IfTold {A = Vec Property Global} (Err fault) (λ found. TextSays text (read_properties found))
says_fault text front at left line behind Memory le e on says = tt
says_fault text front at left line behind (At kind place) le e on says =
    let whole : LinesSay at (line ∷ behind) (Err (At kind place)) = inl (At kind place, says, refl) in
    says_short text (Err (At kind place)) le
    (on (Err (At kind place)) (subst (λ (ls : List (List ℕ)). LinesSay at ls (Err (At kind place))) (sym e) whole))

-- the lines that are left stay within the text
pub fits_next : (at n : ℕ) (left : List (List ℕ)) (line : List ℕ) (behind : List (List ℕ)) → left ≡ line ∷ behind → at + sum_by (λ l. length l + 1) left ≤ n + 1 →
    (at + (length line + 1)) + sum_by (λ l. length l + 1) behind ≤ n + 1
fits_next at n left line behind e h = omega (arith, ap (sum_by (λ l. length l + 1)) e, sum_by-cons (λ l. length l + 1) line behind)

pub fits_first : (text : List ℕ) (left : List (List ℕ)) → left ≡ lines text → 0 + sum_by (λ l. length l + 1) left ≤ length text + 1
fits_first text left e = omega (arith, ap (sum_by (λ l. length l + 1)) e, lines_fit text)

-- a line that is cut into its word and what stands behind it
pub gives_at : (at : ℕ) (line start word_ behind : List ℕ) (end : ℕ) (kind : Option PropertyKind) (found : Result Property PropertyFault) →
    start ≡ line_begun line → end ≡ prefix_len is_token_byte start → word_ ≡ take end start → behind ≡ drop end start → kind ≡ kind_of word_ →
    WordGives kind (at + (length line - length start)) (at + (length line - length start) + end) behind found → LineGives at line found
gives_at at line start word_ behind end kind found es ee ew eb ek gives =
    let by_word = subst (λ (k : Option PropertyKind). WordGives k (at + (length line - length start)) (at + (length line - length start) + end) behind found) ek gives in
    let by_take = subst (λ (w : List ℕ). WordGives (kind_of w) (at + (length line - length start)) (at + (length line - length start) + end) behind found) ew by_word in
    let by_drop = subst (λ (r : List ℕ). WordGives (kind_of (take end start)) (at + (length line - length start)) (at + (length line - length start) + end) r found) eb by_take in
    let by_len =
    subst (λ (n : ℕ). WordGives (kind_of (take n start)) (at + (length line - length start)) (at + (length line - length start) + n) (drop n start) found) ee by_drop in
    subst
    (λ (b : List ℕ). WordGives (kind_of (take (prefix_len is_token_byte b) b)) (at + (length line - length b)) (at + (length line - length b) + prefix_len is_token_byte b)
    (drop (prefix_len is_token_byte b) b) found)
    es by_len

-- a fault of the patterns is one of the line
pub line_fault : (at : ℕ) (line : List ℕ) (fault : PropertyFault) (Gives : Result Property PropertyFault → Type 0) → is_blank_line line ≡ false →
    ((found : Result Property PropertyFault) → Gives found → LineGives at line found) → IfTold {A = Property} (Err fault) Gives →
    IfTold {A = Option Property} (Err fault) (LineSays at line)
line_fault at line Memory Gives blank gives told = tt
line_fault at line (At kind place) Gives blank gives told = line_says at line (Err (At kind place)) blank (gives (Err (At kind place)) told)
