-- What a command has to say once it is done, and how that is carried out: here alone stands what becomes of it where a write or a save fails.
use Rattle.std.specs.Prelude.{◌≡◌, ◌⊎◌, ℕ, ◌<◌, Bool, List, [], ◌∷◌, ◌++◌, length, map, take, codes, Option, Result, Ok, Err}
use Rattle.std.specs.Io.KnownBytes.{Appends, Keeps}
use Rattle.std.specs.String.{string_bytes}
use Rattle.cml_stream.specs.Counts.{counted}
use Rattle.cml_stream.specs.Streams.{Counted, TakesStart, stream}
use Rattle.cml_stream.specs.declared.counts.Counting.{Counting}
use Rattle.cml_text.specs.Lines.{line}
use Rattle.cml_host.specs.Refused.{Fault, IsExplained, cannot_save}
use Rattle.cml_host.specs.Stores.{Content, Shelf, IsSaved, IsUnchanged}
use Rattle.cml_host.specs.Written.{cannot_write}
use Rattle.cml_host.specs.declared.refusal.Refusal.{Refusal}
use Rattle.cml_host.specs.declared.refusal.Refusal.TheVariants.{Told, Line, Memory}
use Rattle.cml_host.specs.declared.reply.Reply.{Reply}
use Rattle.cml_host.specs.declared.reply.File as code

-- ---- streams

-- a stream whose calls are counted, at a moment: what it holds, where that is known, how often it was called, and how often that failed
pub record Moment : Type 0 where
  pub bytes : Option (List ℕ)
  pub calls : ℕ
  pub failed : ℕ

-- a stream before and after
pub record Passage : Type 0 where
  pub old : Moment
  pub new : Moment

abbrev pub moment : {S : Type 0} → (S → Option (List ℕ)) → Counting S → Moment
moment bytes s = record { bytes = bytes s.stream.now; calls = s.calls; failed = s.failed }

abbrev pub passage : {S : Type 0} → (S → Option (List ℕ)) → Counting S → Counting S → Passage
passage bytes old new = record { old = moment bytes old; new = moment bytes new }

-- from its first call on
abbrev pub whole : Counted → Passage
whole s = record {
  old = record { bytes = s.bytes.before; calls = 0; failed = 0 };
  new = record { bytes = s.bytes.after; calls = s.counts.calls; failed = s.counts.failed };
}

-- from this moment on
abbrev pub since : Moment → Passage → Passage
since mid s = record { old = mid; new = s.new }

-- up to this moment
abbrev pub upto : Moment → Passage → Passage
upto mid s = record { old = s.old; new = mid }

-- the text was written, and no write failed; where there is none, the stream was not called
abbrev pub IsWritten : List ℕ → Passage → Type 0
IsWritten [] s = Keeps s.old.bytes s.new.bytes × (s.new.calls ≡ s.old.calls) × (s.new.failed ≡ s.old.failed)
IsWritten (b ∷ bytes) s = Appends s.old.bytes s.new.bytes (b ∷ bytes) × (s.new.failed ≡ s.old.failed)

-- a write of the text failed, after a first part of it
abbrev pub IsCutShort : List ℕ → Passage → Type 0
IsCutShort [] s = ⊥
IsCutShort (b ∷ bytes) s = TakesStart (stream s.old.bytes s.new.bytes) (b ∷ bytes) × (s.new.failed ≡ counted s.old.failed)

-- the text was written, as far as it could be
abbrev pub IsSaid : List ℕ → Passage → Type 0
IsSaid text s = IsWritten text s ⊎ IsCutShort text s

-- ---- what there is to say

-- a file that is to be saved; what is told where it can't be, and whether words may stand behind that
pub record File : Type 0 where
  pub name : List ℕ
  pub bytes : List ℕ
  pub refused : List ℕ
  pub explains : Bool

abbrev pub file : Bool → List ℕ → List ℕ → File
file explains name bytes = record { name = name; bytes = bytes; refused = cannot_save name; explains = explains }

-- what is written to the output; then the files that are saved, in this order; then what is said to the errors; and the status
pub record PlainReply : Type 0 where
  pub output : List ℕ
  pub files : List File
  pub words : List ℕ
  pub status : ℕ

-- this text, and nothing else
abbrev pub gives : List ℕ → PlainReply
gives text = record { output = text; files = []; words = []; status = 0 }

-- nothing but why the command goes no further
abbrev pub refusal : List ℕ → ℕ → PlainReply
refusal told status = record { output = []; files = []; words = told; status = status }

-- the output so far, and that memory ran out
abbrev pub runs_out : List ℕ → PlainReply
runs_out so_far = record { output = so_far; files = []; words = line (codes "memory"); status = 5 }

-- that a write of the output failed
abbrev pub broken : PlainReply
broken = refusal cannot_write 1

-- ---- how it is carried out

-- the files were saved, one after another
abbrev pub AreSaved : List File → (List ℕ → Content) → (List ℕ → Content) → Type 0
AreSaved [] old new = IsUnchanged old new
AreSaved (file ∷ files) old new = (mid : List ℕ → Content) × IsSaved old mid file.name file.bytes × AreSaved files mid new

-- it was told that the file could not be saved
abbrev pub TellsUnsaved : File → Passage → Type 0
TellsUnsaved file errors = (told : List ℕ) × IsExplained file.explains file.refused told × IsSaid told errors

-- the first of the files were saved, and it was told that the next one could not be
abbrev pub FileRefused : List File → Passage → Shelf → Type 0
FileRefused files errors store =
    (done : List File) × (file : File) × (more : List File) × (files ≡ done ++ file ∷ more) × AreSaved done store.before store.after × TellsUnsaved file errors

-- The output was written, the files saved, and then it was said what there is to say. Or a file could not be saved: no other one was after it, and
-- the errors tell that. Or a write of the output failed: nothing was saved, and the errors tell that.
abbrev pub IsCarriedOut : PlainReply → Passage → Passage → Shelf → ℕ → Type 0
IsCarriedOut reply output errors store status =
    (IsWritten reply.output output × AreSaved reply.files store.before store.after × IsSaid reply.words errors × (status ≡ reply.status))
    ⊎ (IsWritten reply.output output × FileRefused reply.files errors store × (status ≡ 1))
    ⊎ (IsCutShort reply.output output × IsUnchanged store.before store.after × IsSaid cannot_write errors × (status ≡ 1))

-- a reply that is so was carried out
abbrev pub Replies : (PlainReply → Type 0) → Passage → Passage → Shelf → ℕ → Type 0
Replies IsSo output errors store status = (reply : PlainReply) × IsSo reply × IsCarriedOut reply output errors store status

-- ---- replies that many commands give

-- it tells what is wrong, or that memory ran out
abbrev pub RefusalOf : Fault → PlainReply → Type 0
RefusalOf IsWrong reply = ((told : List ℕ) × (status : ℕ) × IsWrong told status × (reply ≡ refusal told status)) ⊎ (reply ≡ runs_out [])

-- it gives a text that is so, or tells what is wrong
abbrev pub TextOr : (List ℕ → Type 0) → Fault → PlainReply → Type 0
TextOr IsSo IsWrong reply = ((text : List ℕ) × IsSo text × (reply ≡ gives text)) ⊎ RefusalOf IsWrong reply

-- ---- what private functions say

abbrev pub plain_file : code.File → File
plain_file f = record { name = string_bytes f.name; bytes = f.bytes.items; refused = string_bytes f.refused; explains = f.explains }

abbrev pub plain_of : Reply → PlainReply
plain_of r = record { output = r.output.items; files = map plain_file r.files.items; words = r.words.items; status = r.status }

abbrev pub plain_refusal : List ℕ → Refusal → PlainReply
plain_refusal so_far (Told told status) = record { output = so_far; files = []; words = told.items; status = status }
plain_refusal so_far (Line words status) = record { output = so_far; files = []; words = words.now; status = status }
plain_refusal so_far Memory = runs_out so_far

-- the reply behind the output so far
abbrev pub behind : List ℕ → PlainReply → PlainReply
behind so_far reply = record { output = so_far ++ reply.output; files = reply.files; words = reply.words; status = reply.status }

-- that was made, or why there is none
abbrev pub plain_reply : List ℕ → Result Reply Refusal → PlainReply
plain_reply so_far (Ok r) = behind so_far (plain_of r)
plain_reply so_far (Err why) = plain_refusal so_far why

-- how the writing of a text ended
abbrev pub EndsWriting : {A E : Type 0} → List ℕ → Result A E → Passage → Type 0
EndsWriting text (Ok done) s = IsWritten text s
EndsWriting text (Err fault) s = IsCutShort text s

-- so many of the files were saved, and more there are
abbrev pub HasSavedSome : List File → ℕ → (List ℕ → Content) → (List ℕ → Content) → Type 0
HasSavedSome files count old new = (count < length files) × AreSaved (take count files) old new

-- the files were saved and it was said what there is to say, or one of them could not be saved
abbrev pub IsKept : PlainReply → Passage → Shelf → ℕ → Type 0
IsKept reply errors store status =
    (AreSaved reply.files store.before store.after × IsSaid reply.words errors × (status ≡ reply.status)) ⊎ (FileRefused reply.files errors store × (status ≡ 1))

-- the output so far was written, and it was said why there is no more; or a write of it failed
abbrev pub GivesUp : PlainReply → Passage → Passage → ℕ → Type 0
GivesUp reply output errors status =
    (IsWritten reply.output output × IsSaid reply.words errors × (status ≡ reply.status)) ⊎ (IsCutShort reply.output output × IsSaid cannot_write errors × (status ≡ 1))
