-- What was written of a text, and whether a write failed.
use Rattle.std.proofs.Common.{◌≡◌, ◌∙◌, ℕ, List, Result, Ok, Err, OnOk, OnErr, take, drop, sym, ap, inl, inr}
use Rattle.std.proofs.lemmas.List.{take-append-drop}
use Rattle.cml_stream.specs.Counts.{counted}
use Rattle.cml_stream.specs.Streams.{Stream, Takes, TakesStart, Says}
use Rattle.cml_stream.specs.declared.input_output.WriteFault.{WriteFault}
use Rattle.cml_work.specs.Seen.{IsSentOut, failed_with}
use Rattle.cml_host.specs.Told.{IsSentText}

-- a first part of it was written
pub start_taken : (output : Stream) (text : List ℕ) (n : ℕ) → Takes output (take n text) → TakesStart output text
start_taken output text n written = (take n text, drop n text, sym (take-append-drop n text), written)

-- all of it was written, or a first part, where the one write failed that failed at all
pub said_of : {A B : Type 0} (r : Result A B) (output : Stream) (text : List ℕ) (calls was failed : ℕ) → was ≡ 0 →
    OnOk r (Takes output text) → OnErr r ((n : ℕ) × Takes output (take n text)) →
    OnOk r (failed ≡ was) → OnErr r (failed ≡ counted was) →
    Says (record { bytes = output; counts = record { calls = calls; failed = failed } }) text
said_of (Ok a) output text calls was failed none whole part fine broken = inl (whole, fine ∙ none)
said_of (Err e) output text calls was failed none whole part fine broken =
    inr (start_taken output text part.0 part.1, broken ∙ ap counted none)

-- the writing of a text ended so, where none had failed before
pub sent_of : (r : Result (Unit {0}) WriteFault) (output : Stream) (text : List ℕ) (calls was failed : ℕ) → was ≡ 0 →
    IsSentOut text r output → failed ≡ failed_with r was → IsSentText text r (record { bytes = output; counts = record { calls = calls; failed = failed } })
sent_of (Ok done) output text calls was failed none sent is = (sent, is ∙ none)
sent_of (Err fault) output text calls was failed none sent is = (sent, is ∙ ap counted none)

pub on_err : {A B : Type 0} (r : Result A B) (P : Type 0) → P → OnErr r P
on_err (Ok a) P p = tt
on_err (Err e) P p = p
