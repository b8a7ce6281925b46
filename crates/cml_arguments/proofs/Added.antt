-- A command with more arguments.
use Rattle.std.proofs.Common.{◌≡◌, ◌∙◌, ◌++◌, ◌∷◌, [], ◌||◌, ap, append_assoc, true, false, Bool, refl, ℕ, List, Option}
use Rattle.std.specs.Prelude.{Result, IfOk}
use Rattle.std.specs.Borrow.{Bor}
use Rattle.std.proofs.lemmas.Result.{IfOk-weaker}
use Rattle.clap.specs.Words.{AddsArg, App, Rule, Shape, rule_of, shape_of}
use Rattle.clap.specs.declared.builder.arg.Arg.{Arg}
use Rattle.clap.specs.declared.builder.command.Command.{Command}
use Rattle.clap.specs.declared.builder.command.Command.TheViews.{out-Command}
use Rattle.cml_arguments.specs.Words.{with_rule, FollowsRule, IsShapedAs}

-- an argument follows its rule whatever its help says
pub helped : (rule : Rule) (old new : Arg) (help : Option (Bor (List ℕ))) → FollowsRule rule old → new ≡ record old { help = help } → FollowsRule rule new
helped rule old new help is same = record { rule = ap rule_of same ∙ is.rule; global = ap (λ (a : Arg). a.global) same ∙ is.global }

-- what a command of this shape is with one more argument
pub one_more : (r : Rule) (s : Shape) (old new : Command) (a : Arg) → FollowsRule r a → IsShapedAs s old → AddsArg old a new → IsShapedAs (with_rule r s) new
one_more r s old new a is was adds = record {
  shape = ap (λ (app : App). app.top) (adds.shape is.global) ∙ (ap (λ (rule : Rule). with_rule rule (shape_of old)) is.rule ∙ ap (with_rule r) was.shape);
  globals = adds.globals ∙ (ap (λ b. (out-Command old).has_globals || b) is.global ∙ (or_none (out-Command old).has_globals ∙ was.globals));
}
  where
    or_none : (b : Bool) → (b || false) ≡ b
    or_none true = refl
    or_none false = refl

-- arguments that were added one after another
pub two_added : (r q : Rule) (s : Shape) → with_rule q (with_rule r s) ≡ record s { rules = s.rules ++ r ∷ q ∷ [] }
two_added r q s = ap (λ (list : List Rule). record s { rules = list }) (append_assoc s.rules (r ∷ []) (q ∷ []))

pub three_added : (r q o : Rule) (s : Shape) → with_rule o (with_rule q (with_rule r s)) ≡ record s { rules = s.rules ++ r ∷ q ∷ o ∷ [] }
three_added r q o s = ap (with_rule o) (two_added r q s) ∙ ap (λ (list : List Rule). record s { rules = list }) (append_assoc s.rules (r ∷ q ∷ []) (o ∷ []))

pub six_added : (r q o x y z : Rule) (s : Shape) →
    with_rule z (with_rule y (with_rule x (with_rule o (with_rule q (with_rule r s))))) ≡ record s { rules = s.rules ++ r ∷ q ∷ o ∷ x ∷ y ∷ z ∷ [] }
six_added r q o x y z s =
    ap (λ (t : Shape). with_rule z (with_rule y (with_rule x t))) (three_added r q o s)
    ∙ (three_added x y z (record s { rules = s.rules ++ r ∷ q ∷ o ∷ [] })
    ∙ ap (λ (list : List Rule). record s { rules = list }) (append_assoc s.rules (r ∷ q ∷ o ∷ []) (x ∷ y ∷ z ∷ [])))

-- a command of this shape has any shape that is the same
pub shaped : (E : Type 0) (s t : Shape) (r : Result Command E) → s ≡ t → IfOk r (IsShapedAs s) → IfOk r (IsShapedAs t)
shaped E s t r same is = IfOk-weaker r _ _ (λ command was. record { shape = was.shape ∙ same; globals = was.globals }) is
