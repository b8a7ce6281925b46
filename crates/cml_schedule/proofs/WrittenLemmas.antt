-- What is written is read back.
use Rattle.std.proofs.Common.{rules, ◌≡◌, ℕ, ◌+◌, ◌<◌, ◌≤◌, ◌^◌, ◌&&◌, pos, true, IsTrue, nat_le, nat_lt, List, []}
use Rattle.std.proofs.Common.{◌∷◌, ◌++◌, length, Option, Some, Result, Ok, refl, ap, sym, ◌∙◌, subst, arith, codes}
use Rattle.std.proofs.Common.{append-nil, append_assoc, inl, suc, option_map}
use Rattle.std.specs.List.{flat_map, list_all, All}
use Rattle.std.proofs.lemmas.List.{length-append}
use Rattle.std.proofs.lemmas.Bool.{lt-ltb}
use Rattle.std.proofs.lemmas.Fmt.{decimal_digit}
use Rattle.std.specs.List.{AllByRecursion as Each}
use Rattle.std.specs.Str.{IsUtf8, IsAscii}
use Rattle.std.proofs.lemmas.Bool.Decides.{nat_tests}
use Rattle.std.proofs.lemmas.Str.{IsUtf8-from_ascii}
use Rattle.cml_text.specs.Forms.{PlainSexpr, plain_int}
use Rattle.cml_text.specs.Laws.{PrintedLineIsRead, PrintedLineIsOneLine, WrittenLineIsFirst}
use Rattle.cml_text.specs.Lexemes.{is_name}
use Rattle.cml_text.specs.Lines.{line, lines}
use Rattle.cml_text.specs.Numbers.{number_by}
use Rattle.cml_text.specs.Printed.{printed_line}
use Rattle.cml_text.specs.Sizes.{text_limit}
use Rattle.cml_text.specs.Texts.{Spells}
use Rattle.cml_text.specs.Grammar.{HaveNoLineFeed}
use Rattle.cml_text.specs.declared.sexpr.Span.{Span}
use Rattle.cml_scan.specs.Numbers.{spaced}
use Rattle.cml_scan.specs.declared.meet.Meet.TheVariants.{Single, Pair}
use Rattle.cml_check.specs.declared.size.Size.{Size}
use Rattle.cml_schedule.specs.declared.item.Item.{Item}
use Rattle.cml_schedule.specs.declared.item.Item.TheVariants as item
use Rattle.cml_schedule.specs.declared.line.State.{State}
use Rattle.cml_schedule.specs.declared.line.State.TheVariants.{Opening, Reading, Closed}
use Rattle.cml_schedule.specs.Plans.{PlainPlan}
use Rattle.cml_schedule.specs.Lines.{if_both, within, number_within, budget_from, size_from, row_of_two, place_from, pair_from, swap_from, is_there, with_item, after_line}
use Rattle.cml_schedule.specs.Reading.{LineFits, LeadsTo}
use Rattle.cml_schedule.specs.Laws.{IsNumber, IsWritable, IsHeadOf, WrittenIsRead}
use Rattle.cml_schedule.specs.Written.{head_line, item_line}
use Rattle.cml_schedule.proofs.Letters.{is_letter, letters_name}
use Rattle.cml_schedule.proofs.Phrases.{phrase, none, one_more, IsAt, phrase_at, is_at, printed_phrase, length_numbers, proper_phrase}

-- the laws of texts on which it rests
pub record OfTexts : Type 0 where
  pub read : PrintedLineIsRead
  pub one : PrintedLineIsOneLine
  pub first : WrittenLineIsFirst

-- a keyword of a schedule can be printed as a name
pub record IsWord (bytes : List ℕ) : Type 0 where
  pub utf8 : IsUtf8 bytes
  pub name : IsTrue (is_name bytes)
  pub short : length bytes ≤ 8

is_word : (b : ℕ) (bs : List ℕ) → IsAscii (b ∷ bs) → list_all is_letter (b ∷ bs) ≡ true → length (b ∷ bs) ≤ 8 → IsWord (b ∷ bs)
is_word b bs ascii letters short = record { utf8 = IsUtf8-from_ascii (b ∷ bs) ascii; name = letters_name b bs ascii letters; short = short }

schedule_word : IsWord (codes "schedule")
schedule_word = is_word _ _ (search rules) refl (omega arith)

turn_word : IsWord (codes "turn")
turn_word = is_word _ _ (search rules) refl (omega arith)

commit_word : IsWord (codes "commit")
commit_word = is_word _ _ (search rules) refl (omega arith)

swap_word : IsWord (codes "swap")
swap_word = is_word _ _ (search rules) refl (omega arith)

clock_word : IsWord (codes "clock")
clock_word = is_word _ _ (search rules) refl (omega arith)

end_word : IsWord (codes "end")
end_word = is_word _ _ (search rules) refl (omega arith)

-- a keyword with at most four numbers, written as a line, is read as that keyword and these numbers
fits : OfTexts → (state next : State) (bytes ns : List ℕ) → IsWord bytes → Each (λ n. n < 2 ^ 63) ns → length ns ≤ 4 →
    ((found : List PlainSexpr) → IsAt found bytes ns → after_line state found ≡ Some next) → LineFits state (bytes ++ flat_map spaced ns) next
fits laws state next bytes ns is small few key =
    let limits = proper_phrase bytes ns is.utf8 is.name small in
    let same = printed_phrase bytes ns in
    let numbers = length_numbers ns small in
    let all = length-append bytes (flat_map spaced ns) in
    let is_short = is.short in
    let short : length (printed_line (phrase bytes ns)) ≤ text_limit =
    subst (λ (t : List ℕ). length t ≤ text_limit) (sym same) (omega (arith, numbers, all, is_short, few)) in
    let read = laws.read (phrase bytes ns) limits short in
    (read.0, subst (λ (t : List ℕ). Spells t read.0) same read.1, key read.0 (is_at read.0 bytes ns read.2))

-- and the lines after it follow
leads : OfTexts → (n : ℕ) (state next : State) (bytes ns rest : List ℕ) (found : Result PlainPlan ℕ) → IsWord bytes → Each (λ n. n < 2 ^ 63) ns →
    LineFits state (bytes ++ flat_map spaced ns) next → LeadsTo (n + 1) next (lines rest) found → LeadsTo n state (lines (line (bytes ++ flat_map spaced ns) ++ rest)) found
leads laws n state next bytes ns rest found is small fit behind =
    let limits = proper_phrase bytes ns is.utf8 is.name small in
    let one : HaveNoLineFeed (bytes ++ flat_map spaced ns) =
    subst (λ (t : List ℕ). HaveNoLineFeed t) (printed_phrase bytes ns) (laws.one (phrase bytes ns) limits) in
    let cut = laws.first (bytes ++ flat_map spaced ns) rest one in
    subst (λ (ls : List (List ℕ)). LeadsTo n state ls found) (sym cut) (inl (next, fit, behind))

-- numbers

number_is : (n : ℕ) → n < 2 ^ 32 → number_by (pos n) ≡ Some n
number_is n lt = let small : nat_lt n 4294967296 ≡ true = lt-ltb n 4294967296 (omega (arith, lt)) in rw small refl

both_are : {A B C : Type 0} (f : A → B → C) (o : Option A) (p : Option B) (a : A) (b : B) → o ≡ Some a → p ≡ Some b → if_both f o p ≡ Some (f a b)
both_are f o p a b e g = rw (e, g) refl

within_is : (least most n : ℕ) → least ≤ n → n ≤ most → within least most (Some n) ≡ Some n
within_is least most n le le2 =
    let both : nat_le least n && nat_le n most ≡ true = grind (arith, nat_tests) in rw both refl

-- items

turn_read : (plan : PlainPlan) (t : ℕ) → IsNumber t → (found : List PlainSexpr) → IsAt found (codes "turn") (t ∷ []) →
    after_line (Reading plan) found ≡ Some (Reading (with_item plan (item.Turn (record { 0 = t }))))
turn_read plan t lt _ (phrase_at _ _ _ _ (one_more _ _ _ _ none)) =
    ap (λ o. option_map (λ i. Reading (with_item plan i)) (option_map (λ thread. item.Turn (record { 0 = thread })) o)) (number_is t lt)

clock_read : (plan : PlainPlan) (k : ℕ) → (found : List PlainSexpr) → IsAt found (codes "clock") (k ∷ []) →
    after_line (Reading plan) found ≡ Some (Reading (with_item plan (item.Clock k)))
clock_read plan k _ (phrase_at _ _ _ _ (one_more _ _ _ _ none)) = refl

single_read : (plan : PlainPlan) (t n : ℕ) → IsNumber t → IsNumber n → (found : List PlainSexpr) → IsAt found (codes "commit") (t ∷ n ∷ []) →
    after_line (Reading plan) found ≡ Some (Reading (with_item plan (item.Meet (Single (record { 0 = t }) n))))
single_read plan t n lt ln _ (phrase_at _ _ _ _ (one_more _ _ _ _ (one_more _ _ _ _ none))) =
    ap (λ o. option_map (λ i. Reading (with_item plan i)) (option_map item.Meet o))
    (both_are (λ thread leaf. Single (record { 0 = thread }) leaf) (number_by (pos t)) (number_by (pos n)) t n (number_is t lt) (number_is n ln))

pair_read : (t n u m : ℕ) (a b c d : Span) → IsNumber t → IsNumber n → IsNumber u → IsNumber m →
    pair_from (plain_int a (pos t)) (plain_int b (pos n)) (plain_int c (pos u)) (plain_int d (pos m)) ≡ Some (Pair (record { 0 = t }) n (record { 0 = u }) m)
pair_read t n u m a b c d lt ln lu lm =
    both_are row_of_two (place_from (plain_int a (pos t)) (plain_int b (pos n))) (place_from (plain_int c (pos u)) (plain_int d (pos m))) (t, n) (u, m)
    (both_are (λ thread leaf. (thread, leaf)) (number_by (pos t)) (number_by (pos n)) t n (number_is t lt) (number_is n ln))
    (both_are (λ thread leaf. (thread, leaf)) (number_by (pos u)) (number_by (pos m)) u m (number_is u lu) (number_is m lm))

commit_read : (plan : PlainPlan) (t n u m : ℕ) → IsNumber t → IsNumber n → IsNumber u → IsNumber m → (found : List PlainSexpr) →
    IsAt found (codes "commit") (t ∷ n ∷ u ∷ m ∷ []) → after_line (Reading plan) found ≡ Some (Reading (with_item plan (item.Meet (Pair (record { 0 = t }) n (record { 0 = u }) m))))
commit_read plan t n u m lt ln lu lm _ (phrase_at _ _ _ _ (one_more a _ _ _ (one_more b _ _ _ (one_more c _ _ _ (one_more d _ _ _ none))))) =
    ap (λ o. option_map (λ i. Reading (with_item plan i)) (option_map item.Meet o)) (pair_read t n u m a b c d lt ln lu lm)

swap_read : (plan : PlainPlan) (t n u m : ℕ) → is_there plan.size ≡ true → IsNumber t → IsNumber n → IsNumber u → IsNumber m → (found : List PlainSexpr) →
    IsAt found (codes "swap") (t ∷ n ∷ u ∷ m ∷ []) → after_line (Reading plan) found ≡ Some (Reading (with_item plan (item.Exchange (Pair (record { 0 = t }) n (record { 0 = u }) m))))
swap_read plan t n u m there lt ln lu lm _ (phrase_at _ _ _ _ (one_more a _ _ _ (one_more b _ _ _ (one_more c _ _ _ (one_more d _ _ _ none))))) =
    let forms = plain_int a (pos t) ∷ plain_int b (pos n) ∷ plain_int c (pos u) ∷ plain_int d (pos m) ∷ [] in
    ap (λ t. option_map (λ i. Reading (with_item plan i)) (swap_from t forms)) there
    ∙ ap (λ o. option_map (λ i. Reading (with_item plan i)) (option_map item.Exchange o)) (pair_read t n u m a b c d lt ln lu lm)

end_read : (plan : PlainPlan) → (found : List PlainSexpr) → IsAt found (codes "end") [] → after_line (Reading plan) found ≡ Some (Closed plan)
end_read plan _ (phrase_at _ _ _ _ none) = refl

head_read : (budget : ℕ) (size : Size) → IsHeadOf budget size → (found : List PlainSexpr) → IsAt found (codes "schedule") (2 ∷ budget ∷ size.functions ∷ size.statements ∷ []) →
    after_line Opening found ≡ Some (Reading (record { budget = budget; size = Some size; items = [] }))
head_read budget size head _ (phrase_at _ _ _ _ (one_more a _ _ _ (one_more b _ _ _ (one_more c _ _ _ (one_more d _ _ _ none))))) =
    let f = size.functions in
    let s = size.statements in
    let some = head.some in
    let most = head.most in
    let functions = head.within.1 in
    let statements = head.within.2 in
    let money : number_within 1 1000000000 (plain_int b (pos budget)) ≡ Some budget =
    ap (within 1 1000000000) (number_is budget (omega (arith, most))) ∙ within_is 1 1000000000 budget some most in
    let fs : number_within 1 1024 (plain_int c (pos f)) ≡ Some f = ap (within 1 1024) (number_is f (omega (arith, functions))) ∙ within_is 1 1024 f head.within.0 functions in
    let ss : number_within 0 4096 (plain_int d (pos s)) ≡ Some s = ap (within 0 4096) (number_is s (omega (arith, statements))) ∙ within_is 0 4096 s (omega arith) statements in
    let sized : size_from (plain_int c (pos f)) (plain_int d (pos s)) ≡ Some size =
    both_are (λ f t. record { functions = f; statements = t }) (number_within 1 1024 (plain_int c (pos f))) (number_within 0 4096 (plain_int d (pos s))) f s fs ss in
    ap (λ o. option_map (λ (head : ℕ × Option Size). Reading (record { budget = head.0; size = head.1; items = [] })) o)
    (both_are (λ b t. (b, Some t)) (budget_from 2 (plain_int a (pos 2)) (plain_int b (pos budget))) (size_from (plain_int c (pos f)) (plain_int d (pos s))) budget size money sized)

-- lines

wide : (n : ℕ) → n < 2 ^ 32 → n < 2 ^ 63
wide n lt = omega (arith, lt)

four : (a b c d : List ℕ) → a ++ (b ++ (c ++ (d ++ []))) ≡ a ++ b ++ c ++ d
four a b c d = ap (λ t. a ++ (b ++ (c ++ t))) (append-nil d) ∙ sym (append_assoc a b (c ++ d)) ∙ sym (append_assoc (a ++ b) c d)

pair_line : (h i o j : ℕ) → flat_map spaced (h ∷ i ∷ o ∷ j ∷ []) ≡ spaced h ++ spaced i ++ spaced o ++ spaced j
pair_line h i o j = four (spaced h) (spaced i) (spaced o) (spaced j)

-- a written item is read as one item more
item_leads : OfTexts → (n : ℕ) (plan : PlainPlan) (i : Item) (rest : List ℕ) (found : Result PlainPlan ℕ) → is_there plan.size ≡ true → IsWritable i →
    LeadsTo (n + 1) (Reading (with_item plan i)) (lines rest) found → LeadsTo n (Reading plan) (lines (item_line i ++ rest)) found
item_leads laws n plan (item.Turn t) rest found there lt behind =
    let small : Each (λ n. n < 2 ^ 63) (t.0 ∷ []) = (wide t.0 lt, tt) in
    let fit = fits laws (Reading plan) (Reading (with_item plan (item.Turn t))) (codes "turn") (t.0 ∷ []) turn_word small (omega arith) (turn_read plan t.0 lt) in
    subst (λ (ns : List ℕ). LeadsTo n (Reading plan) (lines (line (codes "turn" ++ ns) ++ rest)) found) (append-nil (spaced t.0))
    (leads laws n (Reading plan) _ (codes "turn") (t.0 ∷ []) rest found turn_word small fit behind)
item_leads laws n plan (item.Clock k) rest found there lt behind =
    let small : Each (λ n. n < 2 ^ 63) (k ∷ []) = (lt, tt) in
    let fit = fits laws (Reading plan) (Reading (with_item plan (item.Clock k))) (codes "clock") (k ∷ []) clock_word small (omega arith) (clock_read plan k) in
    subst (λ (ns : List ℕ). LeadsTo n (Reading plan) (lines (line (codes "clock" ++ ns) ++ rest)) found) (append-nil (spaced k))
    (leads laws n (Reading plan) _ (codes "clock") (k ∷ []) rest found clock_word small fit behind)
item_leads laws n plan (item.Meet (Single t m)) rest found there lt behind =
    let small : Each (λ n. n < 2 ^ 63) (t.0 ∷ m ∷ []) = (wide t.0 lt.0, (wide m lt.1, tt)) in
    let fit = fits laws (Reading plan) (Reading (with_item plan (item.Meet (Single t m)))) (codes "commit") (t.0 ∷ m ∷ []) commit_word small (omega arith) (single_read plan t.0 m lt.0 lt.1) in
    subst (λ (ns : List ℕ). LeadsTo n (Reading plan) (lines (line (codes "commit" ++ spaced t.0 ++ ns) ++ rest)) found) (append-nil (spaced m))
    (leads laws n (Reading plan) _ (codes "commit") (t.0 ∷ m ∷ []) rest found commit_word small fit behind)
item_leads laws n plan (item.Meet (Pair h i o j)) rest found there lt behind =
    let small : Each (λ n. n < 2 ^ 63) (h.0 ∷ i ∷ o.0 ∷ j ∷ []) = (wide h.0 lt.0, (wide i lt.1, (wide o.0 lt.2, (wide j lt.3, tt)))) in
    let fit = fits laws (Reading plan) (Reading (with_item plan (item.Meet (Pair h i o j)))) (codes "commit") (h.0 ∷ i ∷ o.0 ∷ j ∷ []) commit_word small (omega arith)
    (commit_read plan h.0 i o.0 j lt.0 lt.1 lt.2 lt.3) in
    subst (λ (ns : List ℕ). LeadsTo n (Reading plan) (lines (line (codes "commit" ++ ns) ++ rest)) found) (pair_line h.0 i o.0 j)
    (leads laws n (Reading plan) _ (codes "commit") (h.0 ∷ i ∷ o.0 ∷ j ∷ []) rest found commit_word small fit behind)
item_leads laws n plan (item.Exchange (Pair h i o j)) rest found there lt behind =
    let small : Each (λ n. n < 2 ^ 63) (h.0 ∷ i ∷ o.0 ∷ j ∷ []) = (wide h.0 lt.0.0, (wide i lt.0.1, (wide o.0 lt.0.2, (wide j lt.0.3, tt)))) in
    let fit = fits laws (Reading plan) (Reading (with_item plan (item.Exchange (Pair h i o j)))) (codes "swap") (h.0 ∷ i ∷ o.0 ∷ j ∷ []) swap_word small (omega arith)
    (swap_read plan h.0 i o.0 j there lt.0.0 lt.0.1 lt.0.2 lt.0.3) in
    subst (λ (ns : List ℕ). LeadsTo n (Reading plan) (lines (line (codes "swap" ++ ns) ++ rest)) found) (pair_line h.0 i o.0 j)
    (leads laws n (Reading plan) _ (codes "swap") (h.0 ∷ i ∷ o.0 ∷ j ∷ []) rest found swap_word small fit behind)
item_leads laws n plan (item.Exchange (Single t m)) rest found there lt behind = absurd lt.1

end_leads : OfTexts → (n : ℕ) (plan : PlainPlan) → LeadsTo n (Reading plan) (lines (line (codes "end"))) (Ok plan)
end_leads laws n plan =
    let fit = fits laws (Reading plan) (Closed plan) (codes "end") [] end_word tt (omega arith) (end_read plan) in
    leads laws n (Reading plan) (Closed plan) (codes "end") [] [] (Ok plan) end_word tt fit refl

items_lead : OfTexts → (n : ℕ) (plan : PlainPlan) (items : List Item) → is_there plan.size ≡ true → All IsWritable items →
    LeadsTo n (Reading plan) (lines (flat_map item_line items ++ line (codes "end"))) (Ok (record plan { items = plan.items ++ items }))
items_lead laws n plan [] there all =
    subst (λ (is : List Item). LeadsTo n (Reading plan) (lines (line (codes "end"))) (Ok (record plan { items = is }))) (sym (append-nil plan.items)) (end_leads laws n plan)
items_lead laws n plan (i ∷ items) there all =
    let behind = items_lead laws (n + 1) (with_item plan i) items there (λ k d lt. all (suc k) d (omega (arith, lt))) in
    let moved = subst (λ (is : List Item). LeadsTo (n + 1) (Reading (with_item plan i)) (lines (flat_map item_line items ++ line (codes "end"))) (Ok (record plan { items = is })))
    (append_assoc plan.items (i ∷ []) items) behind in
    subst (λ (t : List ℕ). LeadsTo n (Reading plan) (lines t) (Ok (record plan { items = plan.items ++ i ∷ items }))) (sym (append_assoc (item_line i) (flat_map item_line items) (line (codes "end"))))
    (item_leads laws n plan i (flat_map item_line items ++ line (codes "end")) _ there (all 0 i (omega arith)) moved)

head_is : (budget : ℕ) (size : Size) → line (codes "schedule" ++ flat_map spaced (2 ∷ budget ∷ size.functions ∷ size.statements ∷ [])) ≡ head_line budget size
head_is budget size =
    let behind = spaced budget ++ (spaced size.functions ++ (spaced size.statements ++ [])) in
    ap (λ d. line (codes "schedule" ++ (32 ∷ (d ++ behind)))) (decimal_digit 2 (omega arith))
    ∙ ap (λ t. line t) (four (codes "schedule 2") (spaced budget) (spaced size.functions) (spaced size.statements))

pub written_is_read : OfTexts → WrittenIsRead
written_is_read laws budget size items head all =
    let plan : PlainPlan = record { budget = budget; size = Some size; items = [] } in
    let ns = 2 ∷ budget ∷ size.functions ∷ size.statements ∷ [] in
    let most = head.most in
    let functions = head.within.1 in
    let statements = head.within.2 in
    let small : Each (λ n. n < 2 ^ 63) ns = (omega arith, (omega (arith, most), (omega (arith, functions), (omega (arith, statements), tt)))) in
    let fit = fits laws Opening (Reading plan) (codes "schedule") ns schedule_word small (omega arith) (head_read budget size head) in
    let rest = flat_map item_line items ++ line (codes "end") in
    let read = subst (λ (t : List ℕ). LeadsTo 1 Opening (lines (t ++ rest)) (Ok (record { budget = budget; size = Some size; items = items }))) (head_is budget size)
    (leads laws 1 Opening (Reading plan) (codes "schedule") ns rest _ schedule_word small fit (items_lead laws 2 plan items refl all)) in
    subst (λ (t : List ℕ). LeadsTo 1 Opening (lines t) (Ok (record { budget = budget; size = Some size; items = items })))
    (sym (append_assoc (head_line budget size) (flat_map item_line items) (line (codes "end")))) read
