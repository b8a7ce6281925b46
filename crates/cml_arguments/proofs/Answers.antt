-- What clap's answer to the commands of the program says of the arguments.
use Rattle.std.proofs.Common.{◌≡◌, ◌⊎◌, ◌∙◌, ℕ, List, [], true, refl, sym, ap, inl, inr, subst}
use Rattle.clap.specs.Words.{App, HasKind, HasMatchesOf, IsAmong, Text, fault_of, is_simple, is_simple_and_free, subcommand_of, subcommand_rows_of}
use Rattle.clap.proofs.OnLiterals.{clap_on_literals}
use Rattle.clap.specs.declared.error.Error.{Error}
use Rattle.clap.specs.declared.error.kind.ErrorKind.{ErrorKind}
use Rattle.clap.specs.declared.error.kind.ErrorKind.TheVariants.{OutOfMemory}
use Rattle.clap.specs.declared.parser.matches.ArgMatches.{ArgMatches}
use Rattle.cml_arguments.specs.declared.Answer.{Answer}
use Rattle.cml_arguments.specs.declared.Answer.TheVariants as answer
use Rattle.cml_arguments.specs.declared.Task.{Task}
use Rattle.cml_arguments.specs.Words.{commands, faults, IsAnswer, IsTask, AnswersError, AnswersTask, AreAtOdds}

commands_are_simple : is_simple_and_free commands ≡ true
unfolding clap_on_literals
commands_are_simple = refl

commands_are_plain : is_simple commands ≡ true
unfolding clap_on_literals
commands_are_plain = refl

-- a parse of these commands that succeeds has nothing wrong with its arguments, and enters the command that they name
pub no_fault : (app : App) (words : List Text) → app ≡ commands → (is_simple_and_free app ≡ true → fault_of app words ≡ []) → faults words ≡ []
no_fault app words same none = ap (λ (a : App). fault_of a words) (sym same) ∙ none (ap is_simple_and_free same ∙ commands_are_simple)

pub named_by : (app : App) (words : List Text) (m : ArgMatches) → app ≡ commands → HasMatchesOf app words m → subcommand_rows_of m ≡ subcommand_of commands words
named_by app words m same matches = (matches (ap is_simple same ∙ commands_are_plain)).1 ∙ ap (λ (a : App). subcommand_of a words) same

-- and one that fails has a kind that is among their faults
pub among_faults : (app : App) (words : List Text) (e : Error) → app ≡ commands → (is_simple_and_free app ≡ true → HasKind (fault_of app words) e) → HasKind (faults words) e
among_faults app words e same fails = subst (λ (a : App). HasKind (fault_of a words) e) same (fails (ap is_simple_and_free same ∙ commands_are_simple))

-- the answer to an error is an answer to the arguments
pub IsAnswer-error : (words : List (List ℕ)) (kind : ErrorKind) (a : Answer) → (kind ≡ OutOfMemory) ⊎ IsAmong kind (faults words) → AnswersError kind a → IsAnswer words a
IsAnswer-error words kind (answer.Task task) among says = absurd says
IsAnswer-error words kind (answer.Help text) (inl none) (inl help) = cc
IsAnswer-error words kind (answer.Help text) (inl none) (inr version) = cc
IsAnswer-error words kind (answer.Help text) (inr here) (inl help) = inl (subst (λ (k : ErrorKind). IsAmong k (faults words)) help here)
IsAnswer-error words kind (answer.Help text) (inr here) (inr version) = inr (subst (λ (k : ErrorKind). IsAmong k (faults words)) version here)
IsAnswer-error words kind (answer.Fault text) (inl none) says = absurd (says.2 none)
IsAnswer-error words kind (answer.Fault text) (inr here) says = inl (kind, here, says.0, says.1)

-- and the answer to a command that they name is one too
pub IsAnswer-task : (words : List (List ℕ)) (task : Task) (a : Answer) → IsTask words task → AnswersTask task a → IsAnswer words a
IsAnswer-task words task (answer.Task same) is says =
    (subst (λ (t : Task). IsTask words t) (sym says.0) is, λ told odds. says.1 told (subst (λ (t : Task). AreAtOdds t told) says.0 odds))
IsAnswer-task words task (answer.Help text) is says = absurd says
IsAnswer-task words task (answer.Fault text) is says =
    inr (task, is, says)
