-- Commands that were gathered, line by line.
use Rattle.std.proofs.Common.{◌≡◌, ℕ, ◌+◌, List, [], ◌∷◌, ◌++◌, length, refl, ap, sym, ◌∙◌, subst, inl, inr, append_assoc, length-append, arith}
use Rattle.cml_book.specs.declared.command.Command.{Command}
use Rattle.cml_trace.specs.declared.batch.Stop.{Stop}
use Rattle.cml_trace.specs.declared.batch.Stop.TheVariants.{Rows, Bad, End, Memory}
use Rattle.cml_trace.specs.Lines.{TraceLines}
use Rattle.cml_trace.specs.Batches.{AskFor, StopsAt, Gathers}

-- one line more
asked_on : (done : List (List ℕ)) (cs : List Command) (line : List ℕ) (more : List Command) → AskFor done cs → AskFor (line ∷ []) more →
    AskFor (done ++ line ∷ []) (cs ++ more)
asked_on [] cs line more a asks = subst (λ (xs : List Command). AskFor (line ∷ []) (xs ++ more)) (sym a) asks
asked_on (first ∷ done) cs line more (inl a) asks = inl (a.0, asked_on done cs line more a.1 asks)
asked_on (first ∷ done) cs line more (inr a) asks = inr (a.0, a.1 ++ more, a.2, ap (λ xs. xs ++ more) a.3, asked_on done a.1 line more a.4 asks)

-- The lines so far asked for these commands.
pub record Gathering (old now : TraceLines) (commands : List Command) : Type 0 where
  pub done : List (List ℕ)
  pub split : old.left ≡ done ++ now.left
  pub asked : AskFor done commands
  pub counted : now.number ≡ old.number + length done

pub Gathering-start : (old : TraceLines) → Gathering old old []
Gathering-start old = let same : old.number ≡ old.number + 0 = omega arith in record { done = []; split = refl; asked = refl; counted = same }

-- why no command is taken from a line, where its number is known by another count
stops_on : (stop : Stop) (now new : TraceLines) (n k : ℕ) (line : List ℕ) → n ≡ now.number → now.number ≡ k → now.left ≡ line ∷ new.left → new.number ≡ now.number + 1 →
    StopsAt stop (record { number = n; left = line ∷ new.left }) (record { number = n + 1; left = new.left }) →
    StopsAt stop (record { number = k; left = now.left }) new
stops_on Rows now new n k line number count is next at = (at.0, at.1, is ∙ at.2, next ∙ ap (λ i. i + 1) count)
stops_on (Bad m) now new n k line number count is next at = (at.0, at.1, at.2, is ∙ at.3, at.4 ∙ number ∙ count)
stops_on End now new n k line number count is next at = let clash = at.0 in absurd (cc)
stops_on Memory now new n k line number count is next at = tt

-- one line more
pub Gathering-on : (old now new : TraceLines) (cs ds : List Command) (line : List ℕ) → Gathering old now cs → now.left ≡ line ∷ new.left → new.number ≡ now.number + 1 →
    (more : List Command) × AskFor (line ∷ []) more × (ds ≡ cs ++ more) → Gathering old new ds
Gathering-on old now new cs ds line g is next t =
    let longer = length-append g.done (line ∷ []) in
    let so_far = g.counted in
    let counted : new.number ≡ old.number + length (g.done ++ line ∷ []) = omega arith in
    record {
      done = g.done ++ line ∷ [];
      split = g.split ∙ ap (λ ls. g.done ++ ls) is ∙ sym (append_assoc g.done (line ∷ []) new.left);
      asked = subst (λ (xs : List Command). AskFor (g.done ++ line ∷ []) xs) (sym t.2) (asked_on g.done cs line t.0 g.asked t.1);
      counted = counted;
    }

-- no command is taken from a line any more
pub Gathers-stop : (stop : Stop) (old now new : TraceLines) (cs ds : List Command) (n : ℕ) (line : List ℕ) → Gathering old now cs → ds ≡ cs → n ≡ now.number →
    now.left ≡ line ∷ new.left → new.number ≡ now.number + 1 →
    StopsAt stop (record { number = n; left = line ∷ new.left }) (record { number = n + 1; left = new.left }) → Gathers old new ds stop
Gathers-stop stop old now new cs ds n line g same number is next at = record {
  done = g.done;
  others = now.left;
  split = g.split;
  asked = subst (λ (xs : List Command). AskFor g.done xs) (sym same) g.asked;
  stops = stops_on stop now new n (old.number + length g.done) line number g.counted is next at;
}
