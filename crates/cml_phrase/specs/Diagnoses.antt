-- What is said of a place in a text.
use Rattle.std.specs.Prelude.{ℕ, Option, List, map}
use Rattle.cml_phrase.specs.declared.diagnosis.Note.{Note}
use Rattle.cml_phrase.specs.declared.diagnosis.Diagnosis.{Diagnosis}

-- a sentence that is added, and the place that it speaks of, if it speaks of one
pub record PlainNote : Type 0 where
  pub words : List ℕ
  pub at : Option ℕ

-- What is said, where, and what is added. Where it says up to which byte, the line is shown and marked from the place up to there.
pub record PlainDiagnosis : Type 0 where
  pub at : ℕ
  pub marked_to : Option ℕ
  pub message : List ℕ
  pub notes : List PlainNote

-- those of the code
abbrev pub plain_note : Note → PlainNote
plain_note note = record { words = note.words.items; at = note.at }

abbrev pub plain_diagnosis : Diagnosis → PlainDiagnosis
plain_diagnosis d = record { at = d.at; marked_to = d.marked_to; message = d.message.items; notes = map plain_note d.notes.items }
