-- What was shown of many runs, and what is saved of them, one thing after another.
use Rattle.std.proofs.Common.{◌≡◌, ◌∙◌, ◌+◌, ◌<◌, ◌≤◌, ◌++◌, ◌∷◌, [], ℕ, suc, Bool, true, false, List, Option, Some, get_or, filter, map, take, drop}
use Rattle.std.proofs.Common.{length, refl, sym, ap, add-one, add-zero, append-nil, append_assoc, arith}
use Rattle.std.specs.Prelude.{Result, Ok, Err, IfOk, slice_get}
use Rattle.std.specs.List.{All}
use Rattle.std.proofs.lemmas.List.{drop_all}
use Rattle.std.proofs.lemmas.List.Elements.{All-weaker}
use Rattle.std.proofs.lemmas.Option.{slice_get_within}
use Rattle.std.specs.Fmt.{decimal}
use Rattle.std.specs.Option.{option_map_or}
use Rattle.std.proofs.lemmas.List.{length-take-le, map-append}
use Rattle.std.proofs.Math.Seq.{drop-cons, take-suc}
use Rattle.std.proofs.KnownBytes.{Appends-nil, Appends-trans}
use Rattle.cml_check.specs.Sizes.{size_of}
use Rattle.cml_check.specs.Syntax.{Name, PlainItem}
use Rattle.cml_explore.specs.Classes.{PlainClass}
use Rattle.cml_explore.specs.Explored.{PlainExplored}
use Rattle.cml_explore.specs.Told.{IsClassTold, IsToldOfRuns}
use Rattle.cml_explore.specs.declared.explored.Asked.{Asked}
use Rattle.cml_explore.specs.declared.told.ClassTold.{ClassTold}
use Rattle.cml_explore.specs.declared.told.RunsTold.{RunsTold}
use Rattle.cml_phrase.specs.declared.place.Place.{Place}
use Rattle.cml_schedule.specs.Written.{schedule_text}
use Rattle.cml_schedule.specs.declared.item.Item.{Item}
use Rattle.cml_stream.specs.Counts.{counted}
use Rattle.cml_stream.specs.Streams.{stream}
use Rattle.cml_arguments.specs.Words.{saved_name, start_of}
use Rattle.cml_host.specs.Exploring.{MayShow, ShowsMarks, StopsShowing, and_one, file_of, file_told, files_behind, files_from, seen_of, shortest_of}
use Rattle.cml_host.specs.declared.explore.Seen.{Seen}
use Rattle.cml_host.specs.Narrated.{IsCutBy, Writes}
use Rattle.cml_host.specs.Replies.{File, Moment, file, plain_file}
use Rattle.cml_host.specs.declared.explain.Halt.{Halt}
use Rattle.cml_host.specs.declared.explain.Halt.TheVariants.{Memory, Write}
use Rattle.cml_host.specs.declared.reply.File as code
use Rattle.cml_host.proofs.WriteLemmas.{writes_on}

-- ---- what is shown

shown_both : (shows : Bool) (first then : List ℕ) → MayShow shows first → MayShow shows then → MayShow shows (first ++ then)
shown_both true first then is_first is_then = tt
shown_both false first then is_first is_then = ap (λ (t : List ℕ). t ++ then) is_first ∙ is_then

shown_nothing : (shows : Bool) → MayShow shows []
shown_nothing true = tt
shown_nothing false = refl

pub shows_none : (shows : Bool) (a : Option (List ℕ)) → ShowsMarks shows (stream a a)
shows_none shows a = ([], shown_nothing shows, Appends-nil a)

pub shows_words : (shows : Bool) (a b : Option (List ℕ)) → shows ≡ true → Writes (stream a b) → ShowsMarks shows (stream a b)
shows_words true a b so wrote = (wrote.0, tt, wrote.1)
shows_words false a b so wrote = cc

pub shows_on : (shows : Bool) (a b c : Option (List ℕ)) → ShowsMarks shows (stream a b) → ShowsMarks shows (stream b c) → ShowsMarks shows (stream a c)
shows_on shows a b c first then = (first.0 ++ then.0, shown_both shows first.0 then.0 first.1 then.1, Appends-trans a b c first.0 then.0 first.2 then.2)

-- more was shown, or why no more could be
pub stops_on : (shows : Bool) (why : Halt) (a b c : Moment) → ShowsMarks shows (stream a.bytes b.bytes) → b.failed ≡ a.failed → StopsShowing shows why (record { old = b; new = c }) →
    StopsShowing shows why (record { old = a; new = c })
stops_on shows Memory a b c first fine stops = (shows_on shows a.bytes b.bytes c.bytes first stops.0, stops.1 ∙ fine)
stops_on shows Write a b c first fine stops = (shows_on shows a.bytes b.bytes c.bytes first stops.0, stops.1 ∙ ap counted fine)

pub cut_on : (why : Halt) (a b c : Moment) → Writes (stream a.bytes b.bytes) → b.failed ≡ a.failed → IsCutBy why (record { old = b; new = c }) → IsCutBy why (record { old = a; new = c })
cut_on Memory a b c first fine cut = (writes_on a.bytes b.bytes c.bytes first cut.0, cut.1 ∙ fine)
cut_on Write a b c first fine cut = (writes_on a.bytes b.bytes c.bytes first cut.0, cut.1 ∙ ap counted fine)

-- ---- what is saved

files_append : (start : Name) (budget : ℕ) (p : List (PlainItem ℕ)) (classes : List PlainClass) (place : ℕ) (xs ys : List ℕ)
    → files_from start budget p classes place (xs ++ ys) ≡ files_from start budget p classes place xs ++ files_from start budget p classes (place + length xs) ys
files_append start budget p classes place [] ys = ap (λ (n : ℕ). files_from start budget p classes n ys) (sym (add-zero place))
files_append start budget p classes place (x ∷ xs) ys =
    let there : suc place + length xs ≡ place + suc (length xs) = omega arith in
    ap (λ (fs : List File). file_of start budget p classes place x ∷ fs) (files_append start budget p classes (suc place) xs ys
    ∙ ap (λ (n : ℕ). files_from start budget p classes (suc place) xs ++ files_from start budget p classes n ys) there)

-- one file more
pub file_next : (start : Name) (budget : ℕ) (p : List (PlainItem ℕ)) (classes : List PlainClass) (numbers : List ℕ) (i : ℕ) (items : List Item) (c : PlainClass)
    (files : List code.File) (f : code.File) (all : List code.File) → i < length numbers → slice_get classes (get_or numbers i 0) ≡ Some c → items ≡ c.summary.shortest
    → map plain_file files ≡ files_from start budget p classes 1 (take i numbers) → plain_file f ≡ file true (saved_name start (decimal (i + 1))) (schedule_text budget (size_of p) items)
    → all ≡ files ++ f ∷ [] → map plain_file all ≡ files_from start budget p classes 1 (take (i + 1) numbers)
file_next start budget p classes numbers i items c files f all within class is so_far made more =
    let long : length (take i numbers) ≡ i = length-take-le i numbers (omega arith) in
    let place : 1 + length (take i numbers) ≡ i + 1 = omega arith in
    let n = get_or numbers i 0 in
    let whole : take (i + 1) numbers ≡ take i numbers ++ n ∷ [] = ap (λ (k : ℕ). take k numbers) (add-one i) ∙ take-suc numbers i 0 within in
    let shortest : items ≡ shortest_of classes n = is ∙ sym (ap (λ (o : Option PlainClass). option_map_or (λ c. c.summary.shortest) o []) class) in
    let this : plain_file f ≡ file_of start budget p classes (i + 1) n =
    made ∙ ap (λ (xs : List Item). file true (saved_name start (decimal (i + 1))) (schedule_text budget (size_of p) xs)) shortest in
    let out : files_from start budget p classes 1 (take (i + 1) numbers) ≡ files_from start budget p classes 1 (take i numbers) ++ file_of start budget p classes (i + 1) n ∷ [] =
    ap (files_from start budget p classes 1) whole
    ∙ (files_append start budget p classes 1 (take i numbers) (n ∷ [])
    ∙ ap (λ (k : ℕ). files_from start budget p classes 1 (take i numbers) ++ files_from start budget p classes k (n ∷ [])) place) in
    ap (map plain_file) more ∙ (map-append plain_file _ (f ∷ []) ∙ (ap (λ (fs : List File). fs ++ plain_file f ∷ []) so_far
    ∙ (ap (λ (g : File). files_from start budget p classes 1 (take i numbers) ++ g ∷ []) this ∙ sym out)))

-- ---- what is saved of classes that were told

same_file : (budget : ℕ) (p : List (PlainItem ℕ)) (a b : Name) (m n : ℕ) (xs ys : List Item) → a ≡ b → m ≡ n → xs ≡ ys
    → file true (saved_name a (decimal m)) (schedule_text budget (size_of p) xs) ≡ file true (saved_name b (decimal n)) (schedule_text budget (size_of p) ys)
same_file budget p a b m n xs ys by_name by_place by_items = cc

-- the file of a class that was told
pub told_one : {E : Type 0} (start : Name) (budget : ℕ) (p : List (PlainItem ℕ)) (classes : List PlainClass) (seen : Seen) (told : ClassTold) (own : Name) (place : ℕ)
    (items : List Item) (c : PlainClass) (r : Result code.File E) → own ≡ start_of start told.well → place ≡ seen_of seen told.well → slice_get classes told.number ≡ Some c
    → items ≡ c.summary.shortest → IfOk r (λ f. plain_file f ≡ file true (saved_name own (decimal place)) (schedule_text budget (size_of p) items))
    → IfOk r (λ f. plain_file f ≡ file_told start budget p classes seen told)
told_one start budget p classes seen told own place items c (Ok f) by_name by_place there is made =
    let shortest : items ≡ shortest_of classes told.number = is ∙ sym (ap (λ (o : Option PlainClass). option_map_or (λ c. c.summary.shortest) o []) there) in
    made ∙ same_file budget p own (start_of start told.well) place (seen_of seen told.well) items (shortest_of classes told.number) by_name by_place shortest
told_one start budget p classes seen told own place items c (Err e) by_name by_place there is made = tt

-- the classes that are saved of those from one on: it is, or it is not
saved_on : (s : ClassTold → Bool) (told : List ClassTold) (i : ℕ) (c d : ClassTold) → i < length told → c ≡ get_or told i d
    → filter s (drop i told) ≡ filter s (c ∷ drop (i + 1) told)
saved_on s told i c d within is =
    ap (filter s) (drop-cons told i d within)
    ∙ (ap (λ (x : ClassTold). filter s (x ∷ drop (suc i) told)) (sym is) ∙ ap (λ (n : ℕ). filter s (c ∷ drop n told)) (sym (add-one i)))

saved_first : (s : ClassTold → Bool) (c : ClassTold) (cs : List ClassTold) → s c ≡ true → filter s (c ∷ cs) ≡ c ∷ filter s cs
saved_first s c cs saved = rw saved refl

unsaved_first : (s : ClassTold → Bool) (c : ClassTold) (cs : List ClassTold) → s c ≡ false → filter s (c ∷ cs) ≡ filter s cs
unsaved_first s c cs unsaved = rw unsaved refl

files_on : (s : ClassTold → Bool) (start : Name) (budget : ℕ) (p : List (PlainItem ℕ)) (classes : List PlainClass) (seen : Seen) (told : List ClassTold) (i : ℕ) (c d : ClassTold)
    → i < length told → c ≡ get_or told i d → s c ≡ true
    → files_behind start budget p classes seen (filter s (drop i told))
    ≡ file_told start budget p classes (and_one seen c.well) c ∷ files_behind start budget p classes (and_one seen c.well) (filter s (drop (i + 1) told))
files_on s start budget p classes seen told i c d within is saved =
    ap (files_behind start budget p classes seen) (saved_on s told i c d within is ∙ saved_first s c (drop (i + 1) told) saved)

-- one file more
pub told_next : (s : ClassTold → Bool) (start : Name) (budget : ℕ) (p : List (PlainItem ℕ)) (classes : List PlainClass) (seen now : Seen) (told : List ClassTold) (i : ℕ)
    (c d : ClassTold) (files : List code.File) (f : code.File) (all : List code.File) (whole : List File) → i < length told → c ≡ get_or told i d → s c ≡ true
    → now ≡ and_one seen c.well → plain_file f ≡ file_told start budget p classes now c → all ≡ files ++ f ∷ []
    → map plain_file files ++ files_behind start budget p classes seen (filter s (drop i told)) ≡ whole
    → map plain_file all ++ files_behind start budget p classes now (filter s (drop (i + 1) told)) ≡ whole
told_next s start budget p classes seen now told i c d files f all whole within is saved more_seen made more so_far =
    let rest : Seen → List File = λ (k : Seen). files_behind start budget p classes k (filter s (drop (i + 1) told)) in
    let this : plain_file f ∷ rest now ≡ file_told start budget p classes (and_one seen c.well) c ∷ rest (and_one seen c.well) =
    ap (λ (g : File). g ∷ rest now) made ∙ ap (λ (k : Seen). file_told start budget p classes k c ∷ rest k) more_seen in
    ap (λ (xs : List code.File). map plain_file xs ++ rest now) more ∙ (ap (λ (xs : List File). xs ++ rest now) (map-append plain_file files (f ∷ []))
    ∙ (append_assoc (map plain_file files) (plain_file f ∷ []) (rest now)
    ∙ (ap (λ (xs : List File). map plain_file files ++ xs) (this ∙ sym (files_on s start budget p classes seen told i c d within is saved)) ∙ so_far)))

-- one class that is not saved
pub told_past : (s : ClassTold → Bool) (start : Name) (budget : ℕ) (p : List (PlainItem ℕ)) (classes : List PlainClass) (seen now : Seen) (told : List ClassTold) (i : ℕ)
    (c d : ClassTold) (files all : List code.File) (whole : List File) → i < length told → c ≡ get_or told i d → s c ≡ false → now ≡ seen → all ≡ files
    → map plain_file files ++ files_behind start budget p classes seen (filter s (drop i told)) ≡ whole
    → map plain_file all ++ files_behind start budget p classes now (filter s (drop (i + 1) told)) ≡ whole
told_past s start budget p classes seen now told i c d files all whole within is unsaved same_seen same so_far =
    ap (λ (k : Seen). map plain_file all ++ files_behind start budget p classes k (filter s (drop (i + 1) told))) same_seen
    ∙ (ap (λ (xs : List code.File). map plain_file xs ++ files_behind start budget p classes seen (filter s (drop (i + 1) told))) same
    ∙ (ap (λ (cs : List ClassTold). map plain_file files ++ files_behind start budget p classes seen cs)
    (sym (saved_on s told i c d within is ∙ unsaved_first s c (drop (i + 1) told) unsaved)) ∙ so_far))

-- no more of them
pub told_all : (s : ClassTold → Bool) (start : Name) (budget : ℕ) (p : List (PlainItem ℕ)) (classes : List PlainClass) (seen : Seen) (told : List ClassTold) (i : ℕ)
    (files : List code.File) (whole : List File) → length told ≤ i
    → map plain_file files ++ files_behind start budget p classes seen (filter s (drop i told)) ≡ whole → map plain_file files ≡ whole
told_all s start budget p classes seen told i files whole past so_far =
    sym (append-nil (map plain_file files))
    ∙ (ap (λ (cs : List ClassTold). map plain_file files ++ files_behind start budget p classes seen (filter s cs)) (sym (drop_all i told past)) ∙ so_far)

-- one class more
pub seen_few : (seen now : Seen) (well : Bool) (i : ℕ) → now ≡ and_one seen well → seen.bad ≤ i → seen.good ≤ i → (now.bad ≤ i + 1) × (now.good ≤ i + 1)
seen_few seen now true i is bad good = (omega (arith, ap (λ (k : Seen). k.bad) is, bad), omega (arith, ap (λ (k : Seen). k.good) is, good))
seen_few seen now false i is bad good = (omega (arith, ap (λ (k : Seen). k.bad) is, bad), omega (arith, ap (λ (k : Seen). k.good) is, good))

-- the numbers of the classes that were told are theirs
pub told_below : (places : List (List Place)) (p : List (PlainItem ℕ)) (asked : Asked) (made : PlainExplored) (told : RunsTold) → IsToldOfRuns places p asked made told
    → All (λ (c : ClassTold). c.number < length made.classes) told.classes.items
told_below places p asked made told is =
    All-weaker (IsClassTold places p asked made.classes) (λ (c : ClassTold). c.number < length made.classes) (λ c own. slice_get_within made.classes c.number own.class own.there)
    told.classes.items is.classes_are.each
