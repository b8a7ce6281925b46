-- What was written of texts, one after another, what was saved of files, and how a reply was carried out by that.
use Rattle.std.proofs.Common.{◌≡◌, ◌∙◌, ◌+◌, ◌<◌, ◌==◌, ◌++◌, ◌∷◌, [], ℕ, zero, suc, Bool, false, List, Result, Ok}
use Rattle.std.proofs.Common.{Err, OnOk, OnErr, map, take, drop, drop-cons, get_or, length, string_bytes, arith, refl, sym, ap, subst, inr, add-one, true≢false}
use Rattle.std.proofs.KnownBytes.{Appends-kept, Appends-nil, Appends-trans, Keeps-trans}
use Rattle.std.proofs.Math.Seq.{take-suc}
use Rattle.std.proofs.lemmas.List.{take-append-drop}
use Rattle.cml_stream.specs.Counts.{counted}
use Rattle.cml_stream.specs.Streams.{stream, Takes}
use Rattle.cml_host.specs.Replies.{AreSaved, IsCutShort, File, HasSavedSome, IsKept, EndsWriting}
use Rattle.cml_host.specs.Replies.{IsWritten, Moment, Passage, TellsUnsaved, plain_file, plain_of}
use Rattle.cml_host.specs.Stores.{Content, Shelf, IsReplacedBy, IsSaved, IsUnchanged}
use Rattle.cml_host.specs.declared.reply.File as code
use Rattle.cml_host.specs.declared.reply.Reply.{Reply}
use Rattle.cml_host.proofs.SayLemmas.{start_taken}
use Rattle.cml_host.proofs.TellLemmas.{start_behind}

-- ---- what was written

abbrev pub way : Moment → Moment → Passage
way a b = record { old = a; new = b }

-- a text that is not empty is there
pub there_is : (text : List ℕ) (e : Bool) → e ≡ (length text == 0) → e ≡ false → text ≡ [] → ⊥
there_is text e is some none = true≢false (sym (is ∙ ap (λ (ts : List ℕ). length ts == 0) none) ∙ some)

-- the writing of a text that is there ended so
pub sent_by : {A B : Type 0} (r : Result A B) (text : List ℕ) (s : Passage) → (text ≡ [] → ⊥) → OnOk r (Takes (stream s.old.bytes s.new.bytes) text) →
    OnErr r ((n : ℕ) × Takes (stream s.old.bytes s.new.bytes) (take n text)) → OnOk r (s.new.failed ≡ s.old.failed) → OnErr r (s.new.failed ≡ counted s.old.failed) →
    EndsWriting text r s
sent_by (Ok x) [] s some whole part fine broken = absurd (some refl)
sent_by (Ok x) (b ∷ bytes) s some whole part fine broken = (whole, fine)
sent_by (Err e) [] s some whole part fine broken = absurd (some refl)
sent_by (Err e) (b ∷ bytes) s some whole part fine broken = (start_taken _ (b ∷ bytes) part.0 part.1, broken)

takes_of : (text : List ℕ) (s : Passage) → IsWritten text s → Takes (stream s.old.bytes s.new.bytes) text
takes_of [] s written = Appends-kept s.old.bytes s.old.bytes s.new.bytes [] (Appends-nil s.old.bytes) written.0
takes_of (b ∷ bytes) s written = written.0

fine_of : (text : List ℕ) (s : Passage) → IsWritten text s → s.new.failed ≡ s.old.failed
fine_of [] s written = written.2
fine_of (b ∷ bytes) s written = written.1

written_both : (first second : List ℕ) (a b c : Moment) → IsWritten first (way a b) → IsWritten second (way b c) → IsWritten (first ++ second) (way a c)
written_both [] [] a b c one two = (Keeps-trans a.bytes b.bytes c.bytes one.0 two.0, two.1 ∙ one.1, two.2 ∙ one.2)
written_both [] (y ∷ ys) a b c one two =
    (Appends-trans a.bytes b.bytes c.bytes [] (y ∷ ys) (takes_of [] (way a b) one) two.0, two.1 ∙ one.2)
written_both (x ∷ xs) ys a b c one two =
    (Appends-trans a.bytes b.bytes c.bytes (x ∷ xs) ys one.0 (takes_of ys (way b c) two), fine_of ys (way b c) two ∙ one.1)

breaks_behind : (first second : List ℕ) (a b c : Moment) → IsWritten first (way a b) → IsCutShort second (way b c) → IsCutShort (first ++ second) (way a c)
breaks_behind first [] a b c one two = absurd two
breaks_behind [] (y ∷ ys) a b c one two =
    (start_behind a.bytes b.bytes c.bytes [] (y ∷ ys) (takes_of [] (way a b) one) two.0, two.1 ∙ ap counted one.2)
breaks_behind (x ∷ xs) (y ∷ ys) a b c one two =
    (start_behind a.bytes b.bytes c.bytes (x ∷ xs) (y ∷ ys) one.0 two.0, two.1 ∙ ap counted one.1)

-- a text was written, and the writing of another behind it ended so
pub sent_behind : {A B : Type 0} (r : Result A B) (first second : List ℕ) (a b c : Moment) → IsWritten first (way a b) → EndsWriting second r (way b c) →
    EndsWriting (first ++ second) r (way a c)
sent_behind (Ok x) first second a b c one two = written_both first second a b c one two
sent_behind (Err e) first second a b c one two = breaks_behind first second a b c one two

-- ---- what was saved

saved_more : (files : List File) (file : File) (old mid new : List ℕ → Content) → AreSaved files old mid → IsSaved mid new file.name file.bytes → AreSaved (files ++ file ∷ []) old new
saved_more [] file old mid new same saved = (
  new,
  record {
    saved = subst (λ (content : Content). IsReplacedBy content (new file.name) file.bytes) (same file.name) saved.saved;
    others = λ other apart. saved.others other apart ∙ same other;
  },
  λ name. refl,
)
saved_more (f ∷ files) file old mid new all saved = (all.0, all.1, saved_more files file all.0 mid new all.2 saved)

pub saved_still : (files : List File) (old mid new : List ℕ → Content) → AreSaved files old mid → IsUnchanged mid new → AreSaved files old new
saved_still [] old mid new same still = λ name. still name ∙ same name
saved_still (f ∷ files) old mid new all still = (all.0, all.1, saved_still files all.0 mid new all.2 still)

pub mapped_more : (files : List code.File) (f : code.File) → map plain_file (files ++ f ∷ []) ≡ map plain_file files ++ plain_file f ∷ []
mapped_more [] f = refl
mapped_more (x ∷ files) f = ap (λ (fs : List File). plain_file x ∷ fs) (mapped_more files f)

-- one file more was saved
pub next_saved : (files : List code.File) (i : ℕ) (f : code.File) (old mid new : List ℕ → Content) → i < length files → f ≡ get_or files i f → AreSaved (map plain_file (take i files)) old mid →
    IsSaved mid new (string_bytes f.name) f.bytes.items → AreSaved (map plain_file (take (i + 1) files)) old new
next_saved files i f old mid new within is all saved =
    let first : take (i + 1) files ≡ take i files ++ f ∷ [] =
    ap (λ (k : ℕ). take k files) (add-one i) ∙ (take-suc files i f within ∙ ap (λ (x : code.File). take i files ++ x ∷ []) (sym is)) in
    subst (λ (fs : List File). AreSaved fs old new) (sym (ap (map plain_file) first ∙ mapped_more (take i files) f))
    (saved_more (map plain_file (take i files)) (plain_file f) old mid new all saved)

taken : (i : ℕ) (files : List code.File) → map plain_file (take i files) ≡ take i (map plain_file files)
taken zero files = refl
taken (suc i) [] = refl
taken (suc i) (f ∷ files) = ap (λ (fs : List File). plain_file f ∷ fs) (taken i files)

counted_alike : (files : List code.File) → length files ≡ length (map plain_file files)
counted_alike [] = refl
counted_alike (f ∷ files) = ap suc (counted_alike files)

-- or it could not be
pub some_saved : (files : List code.File) (i : ℕ) (old mid new : List ℕ → Content) → i < length files → AreSaved (map plain_file (take i files)) old mid →
    IsUnchanged mid new → HasSavedSome (map plain_file files) i old new
some_saved files i old mid new within all same = (
  subst (λ (n : ℕ). i < n) (counted_alike files) within,
  subst (λ (fs : List File). AreSaved fs old new) (taken i files) (saved_still (map plain_file (take i files)) old mid new all same),
)

mapped_get : (files : List code.File) (i : ℕ) (f : code.File) → i < length files → get_or (map plain_file files) i (plain_file f) ≡ plain_file (get_or files i f)
mapped_get [] i f within = absurd (omega (arith, within))
mapped_get (x ∷ files) zero f within = refl
mapped_get (x ∷ files) (suc i) f within = mapped_get files i f (omega (arith, within))

split_at : (files : List code.File) (i : ℕ) (f : code.File) → i < length (map plain_file files) → f ≡ get_or files i f →
    map plain_file files ≡ take i (map plain_file files) ++ plain_file f ∷ drop (suc i) (map plain_file files)
split_at files i f within is =
    let all = map plain_file files in
    let there : i < length files = subst (λ (n : ℕ). i < n) (sym (counted_alike files)) within in
    sym (take-append-drop i all)
    ∙ ap (λ (fs : List File). take i all ++ fs)
    (drop-cons all i (plain_file f) within ∙ ap (λ (x : File). x ∷ drop (suc i) all) (mapped_get files i f there ∙ ap plain_file (sym is)))

-- it was told that this one of them could not be saved
pub kept_some : (reply : Reply) (i : ℕ) (f : code.File) (errors : Passage) (store : Shelf) (status : ℕ) → f ≡ get_or reply.files.items i f →
    HasSavedSome (map plain_file reply.files.items) i store.before store.after → TellsUnsaved (plain_file f) errors → status ≡ 1 → IsKept (plain_of reply) errors store status
kept_some reply i f errors store status at saved told is = inr ((_, plain_file f, _, split_at reply.files.items i f saved.0 at, saved.1, told), is)

-- ---- how a reply was carried out
