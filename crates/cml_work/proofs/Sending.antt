-- What was written of several texts, one after another.
use Rattle.std.proofs.Common.{◌≡◌, ◌∙◌, ◌+◌, ◌<◌, ℕ, List, [], ◌∷◌, ◌++◌, Option, Result, Ok, Err, OnOk, OnErr, take, drop, length, get_or, sym, ap, subst, append_assoc, append-nil}
use Rattle.std.specs.List.{flat_map}
use Rattle.std.proofs.KnownBytes.{Appends-trans}
use Rattle.std.proofs.lemmas.Grind.{flat_map-append}
use Rattle.std.proofs.lemmas.List.{take-append-drop, take_more}
use Rattle.cml_stream.specs.Counts.{counted}
use Rattle.cml_stream.specs.Streams.{Stream, stream, Takes, TakesStart}
use Rattle.cml_work.specs.Seen.{IsSentOut, failed_with}

-- a text, and then a prefix of one more
pub start_behind : (a b c : Option (List ℕ)) (text more : List ℕ) →
    Takes (stream a b) text → TakesStart (stream b c) more → TakesStart (stream a c) (text ++ more)
start_behind a b c text more first then = (
  text ++ then.0,
  then.1,
  ap (λ ts. text ++ ts) then.2 ∙ sym (append_assoc text then.0 then.1),
  Appends-trans a b c text then.0 first then.3,
)

-- a prefix of a text is one of what goes on after it
pub start_more : (a b : Option (List ℕ)) (text more : List ℕ) → TakesStart (stream a b) text → TakesStart (stream a b) (text ++ more)
start_more a b text more part =
    (part.0, part.1 ++ more, ap (λ ts. ts ++ more) part.2 ∙ append_assoc part.0 part.1 more, part.3)

-- how the writing of a text ended
pub sent_of : {A E : Type 0} (r : Result A E) (output : Stream) (text bytes : List ℕ) → bytes ≡ text →
    OnOk r (Takes output bytes) → OnErr r ((n : ℕ) × Takes output (take n bytes)) → IsSentOut text r output
sent_of (Ok done) output text bytes same whole part = subst (λ (ts : List ℕ). Takes output ts) same whole
sent_of (Err fault) output text bytes same whole part =
    (take part.0 bytes, drop part.0 bytes, sym same ∙ sym (take-append-drop part.0 bytes), part.1)

pub failed_of : {A E : Type 0} (r : Result A E) (was failed : ℕ) → OnOk r (failed ≡ was) → OnErr r (failed ≡ counted was) → failed ≡ failed_with r was
failed_of (Ok done) was failed fine broken = fine
failed_of (Err fault) was failed fine broken = broken

-- a text, and then how the writing of another ended
pub sent_behind : {A E : Type 0} (a b c : Option (List ℕ)) (text more : List ℕ) (ended : Result A E) →
    Takes (stream a b) text → IsSentOut more ended (stream b c) → IsSentOut (text ++ more) ended (stream a c)
sent_behind a b c text more (Ok done) first then = Appends-trans a b c text more first then
sent_behind a b c text more (Err fault) first then = start_behind a b c text more first then

lines_split : {A : Type 0} (f : A → List ℕ) (xs : List A) (i : ℕ) (d : A) → i < length xs →
    flat_map f (take (i + 1) xs) ≡ flat_map f (take i xs) ++ f (get_or xs i d)
lines_split f xs i d there =
    ap (flat_map f) (take_more xs i d there)
    ∙ flat_map-append f (take i xs) (get_or xs i d ∷ [])
    ∙ ap (λ (ts : List ℕ). flat_map f (take i xs) ++ ts) (append-nil (f (get_or xs i d)))

-- the lines up to one, and then that one
pub lines_behind : {A : Type 0} (f : A → List ℕ) (a b c : Option (List ℕ)) (xs : List A) (i : ℕ) (d : A) (text : List ℕ) →
    i < length xs → text ≡ f (get_or xs i d) →
    Takes (stream a b) (flat_map f (take i xs)) → Takes (stream b c) text →
    Takes (stream a c) (flat_map f (take (i + 1) xs))
lines_behind f a b c xs i d text there same before then =
    subst (λ (ts : List ℕ). Takes (stream a c) ts) (ap (λ (ts : List ℕ). flat_map f (take i xs) ++ ts) same ∙ sym (lines_split f xs i d there))
    (Appends-trans a b c _ _ before then)

-- the lines up to one, of which a write failed
pub lines_ended : {A : Type 0} (f : A → List ℕ) (a b c : Option (List ℕ)) (xs : List A) (i : ℕ) (d : A) (text : List ℕ) →
    i < length xs → text ≡ f (get_or xs i d) →
    Takes (stream a b) (flat_map f (take i xs)) → TakesStart (stream b c) text → TakesStart (stream a c) (flat_map f xs)
lines_ended f a b c xs i d text there same before sent =
    subst (λ (ts : List ℕ). TakesStart (stream a c) ts)
    (sym (flat_map-append f (take (i + 1) xs) (drop (i + 1) xs)) ∙ ap (flat_map f) (take-append-drop (i + 1) xs))
    (start_more a c (flat_map f (take (i + 1) xs)) (flat_map f (drop (i + 1) xs))
    (subst (λ (ts : List ℕ). TakesStart (stream a c) ts)
    (ap (λ (ts : List ℕ). flat_map f (take i xs) ++ ts) same ∙ sym (lines_split f xs i d there))
    (start_behind a b c _ _ before sent)))
