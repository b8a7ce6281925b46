-- What was told of a text, piece by piece.
use Rattle.std.proofs.Common.{◌≡◌, ℕ, ◌+◌, ◌<◌, List, [], ◌∷◌, ◌++◌, Option, length, get_or, take, drop, refl, ap, sym, ◌∙◌, subst, append_assoc, append-nil, add-one}
use Rattle.std.proofs.Math.Seq.{drop-cons}
use Rattle.std.specs.List.{flat_map}
use Rattle.std.proofs.lemmas.List.{take-append-drop}
use Rattle.std.specs.Io.KnownBytes.{Appends}
use Rattle.std.proofs.KnownBytes.{Appends-trans, Appends-nil}
use Rattle.cml_stream.specs.Streams.{stream}
use Rattle.cml_trace.specs.Pages.{Tells, TellsStart}

-- nothing was told
pub Tells-nothing : (waits : List ℕ) (held : Option (List ℕ)) → Tells waits waits (stream held held) []
Tells-nothing waits held = record { part = []; written = Appends-nil held; whole = append-nil waits }

-- none of the text was told
pub TellsStart-nothing : (waits text : List ℕ) (held : Option (List ℕ)) → TellsStart waits waits (stream held held) text
TellsStart-nothing waits text held = record { part = []; untold = text; written = Appends-nil held; whole = refl }

-- all of it was told
pub TellsStart-all : (waited waits : List ℕ) (held holds : Option (List ℕ)) (text : List ℕ) → Tells waited waits (stream held holds) text →
    TellsStart waited waits (stream held holds) text
TellsStart-all waited waits held holds text t =
    record { part = t.part; untold = []; written = t.written; whole = t.whole ∙ ap (λ ws. t.part ++ ws) (sym (append-nil waits)) }

-- a prefix of it is a prefix of what goes on after it
pub TellsStart-more : (waited waits : List ℕ) (held holds : Option (List ℕ)) (text more : List ℕ) → TellsStart waited waits (stream held holds) text →
    TellsStart waited waits (stream held holds) (text ++ more)
TellsStart-more waited waits held holds text more t =
    record {
      part = t.part;
      untold = t.untold ++ more;
      written = t.written;
      whole = sym (append_assoc waited text more) ∙ ap (λ ts. ts ++ more) t.whole ∙ append_assoc t.part (waits ++ t.untold) more
          ∙ ap (λ ts. t.part ++ ts) (append_assoc waits t.untold more);
    }

-- a piece, and then one more
pub Tells-both : (a b c : List ℕ) (held mid holds : Option (List ℕ)) (first second : List ℕ) →
    Tells a b (stream held mid) first → Tells b c (stream mid holds) second → Tells a c (stream held holds) (first ++ second)
Tells-both a b c held mid holds first second s t =
    record {
      part = s.part ++ t.part;
      written = Appends-trans held mid holds s.part t.part s.written t.written;
      whole = sym (append_assoc a first second) ∙ ap (λ ts. ts ++ second) s.whole ∙ append_assoc s.part b second ∙ ap (λ ts. s.part ++ ts) t.whole
          ∙ sym (append_assoc s.part t.part c);
    }

-- a piece, and then a prefix of one more
pub TellsStart-behind : (a b c : List ℕ) (held mid holds : Option (List ℕ)) (first second : List ℕ) →
    Tells a b (stream held mid) first → TellsStart b c (stream mid holds) second → TellsStart a c (stream held holds) (first ++ second)
TellsStart-behind a b c held mid holds first second s t =
    record {
      part = s.part ++ t.part;
      untold = t.untold;
      written = Appends-trans held mid holds s.part t.part s.written t.written;
      whole = sym (append_assoc a first second) ∙ ap (λ ts. ts ++ second) s.whole ∙ append_assoc s.part b second ∙ ap (λ ts. s.part ++ ts) t.whole
          ∙ sym (append_assoc s.part t.part (c ++ t.untold));
    }

-- of all that waited, the new text too, this much was written
pub TellsStart-sent : (waited waits all text : List ℕ) (held holds : Option (List ℕ)) (k : ℕ) → all ≡ waited ++ text → waits ≡ [] →
    Appends held holds (take k all) → TellsStart waited waits (stream held holds) text
TellsStart-sent waited waits all text held holds k is none written =
    record {
      part = take k all;
      untold = drop k all;
      written = written;
      whole = sym is ∙ sym (take-append-drop k all) ∙ ap (λ ws. take k all ++ (ws ++ drop k all)) (sym none);
    }

-- Of this text a first part was told, and the rest is left.
pub record Told (all rest waited waits : List ℕ) (held holds : Option (List ℕ)) : Type 0 where
  pub told : List ℕ
  pub split : all ≡ told ++ rest
  pub tells : Tells waited waits (stream held holds) told

pub Told-start : (all waits : List ℕ) (held : Option (List ℕ)) → Told all all waits waits held held
Told-start all waits held = record { told = []; split = refl; tells = Tells-nothing waits held }

-- one line more
pub Told-line : (all rest more line a b c : List ℕ) (held mid holds : Option (List ℕ)) → Told all rest a b held mid → rest ≡ line ++ more →
    Tells b c (stream mid holds) line → Told all more a c held holds
Told-line all rest more line a b c held mid holds s next t = record {
  told = s.told ++ line;
  split = s.split ∙ ap (λ ts. s.told ++ ts) next ∙ sym (append_assoc s.told line more);
  tells = Tells-both a b c held mid holds s.told line s.tells t;
}

-- a prefix of one more
pub Told-begun : (all rest more line a b c : List ℕ) (held mid holds : Option (List ℕ)) → Told all rest a b held mid → rest ≡ line ++ more →
    TellsStart b c (stream mid holds) line → TellsStart a c (stream held holds) all
Told-begun all rest more line a b c held mid holds s next t =
    subst (λ (ts : List ℕ). TellsStart a c (stream held holds) ts) (sym (s.split ∙ ap (λ ts. s.told ++ ts) next))
    (TellsStart-behind a b c held mid holds s.told (line ++ more) s.tells (TellsStart-more b c mid holds line more t))

-- no more
pub Told-stopped : (all rest a b : List ℕ) (held holds : Option (List ℕ)) → Told all rest a b held holds → TellsStart a b (stream held holds) all
Told-stopped all rest a b held holds s =
    subst (λ (ts : List ℕ). TellsStart a b (stream held holds) ts) (sym s.split)
    (TellsStart-more a b held holds s.told rest (TellsStart-all a b held holds s.told s.tells))

-- what is left of the texts of a list, at one of its items
pub next_text : {X : Type 0} (f : X → List ℕ) (xs : List X) (i : ℕ) (d : X) → i < length xs →
    flat_map f (drop i xs) ≡ f (get_or xs i d) ++ flat_map f (drop (i + 1) xs)
next_text f xs i d lt =
    let tail : drop i xs ≡ get_or xs i d ∷ drop (i + 1) xs = rw (add-one) (drop-cons xs i d lt) in ap (λ ys. flat_map f ys) tail
