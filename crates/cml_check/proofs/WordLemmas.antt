-- What holds of each keyword: what its spelling names, and what a statement with a condition and statements has of these.
use Rattle.std.proofs.Common.{◌≡◌, ℕ, ◌+◌, true, List, refl}
use Rattle.std.proofs.lemmas.Bool.{and_from}
use Rattle.cml_check.specs.declared.word.Word.TheVariants as word
use Rattle.cml_check.specs.declared.word.Tested.{Tested}
use Rattle.cml_check.specs.declared.word.Tested.TheVariants as tested
use Rattle.cml_check.specs.declared.syntax.Constant.TheVariants as constant_of
use Rattle.cml_check.specs.declared.syntax.Unary.TheVariants as unary_of
use Rattle.cml_check.specs.declared.syntax.Binary.TheVariants as binary_of
use Rattle.cml_check.specs.declared.syntax.Act.TheVariants as act_of
use Rattle.cml_check.specs.declared.syntax.ActOnOne.TheVariants as one_of
use Rattle.cml_check.specs.declared.syntax.ActOnTwo.TheVariants as two_of
use Rattle.cml_check.specs.Laws.{SpellingNamesWord}
use Rattle.cml_check.specs.Syntax.{PlainExpr, PlainStmts, expr_map, stmt_map, stmts_map}
use Rattle.cml_check.specs.InOrder.{expr_fits, stmt_fits, stmts_fit}
use Rattle.cml_check.specs.Sizes.{stmt_count, stmts_count}
use Rattle.cml_check.specs.Statements.{tested_stmt}

pub spelling_names_word : SpellingNamesWord
spelling_names_word word.Fn = refl
spelling_names_word word.Do = refl
spelling_names_word word.Let = refl
spelling_names_word word.Set = refl
spelling_names_word word.If = refl
spelling_names_word (word.Tested tested.While) = refl
spelling_names_word word.Return = refl
spelling_names_word word.Call = refl
spelling_names_word word.Spawn = refl
spelling_names_word word.Choose = refl
spelling_names_word word.Wrap = refl
spelling_names_word word.Guard = refl
spelling_names_word word.WithNack = refl
spelling_names_word word.MVar = refl
spelling_names_word (word.Constant constant_of.True) = refl
spelling_names_word (word.Constant constant_of.False) = refl
spelling_names_word (word.Constant constant_of.Unit) = refl
spelling_names_word (word.Constant constant_of.Never) = refl
spelling_names_word (word.Unary unary_of.Not) = refl
spelling_names_word (word.Unary unary_of.Fst) = refl
spelling_names_word (word.Unary unary_of.Snd) = refl
spelling_names_word (word.Unary unary_of.Always) = refl
spelling_names_word (word.Unary unary_of.Recv) = refl
spelling_names_word (word.Unary unary_of.IGet) = refl
spelling_names_word (word.Unary unary_of.MTake) = refl
spelling_names_word (word.Unary unary_of.MGet) = refl
spelling_names_word (word.Unary unary_of.MailRecv) = refl
spelling_names_word (word.Unary unary_of.PortRecv) = refl
spelling_names_word (word.Unary unary_of.Join) = refl
spelling_names_word (word.Unary unary_of.At) = refl
spelling_names_word (word.Unary unary_of.After) = refl
spelling_names_word (word.Binary binary_of.Plus) = refl
spelling_names_word (word.Binary binary_of.Minus) = refl
spelling_names_word (word.Binary binary_of.Times) = refl
spelling_names_word (word.Binary binary_of.Less) = refl
spelling_names_word (word.Binary binary_of.Equal) = refl
spelling_names_word (word.Binary binary_of.Pair) = refl
spelling_names_word (word.Binary binary_of.Send) = refl
spelling_names_word (word.Binary binary_of.Swap) = refl
spelling_names_word (word.Binary binary_of.MSwap) = refl
spelling_names_word (word.Act act_of.Chan) = refl
spelling_names_word (word.Act act_of.SwapChan) = refl
spelling_names_word (word.Act act_of.IVar) = refl
spelling_names_word (word.Act act_of.MVar) = refl
spelling_names_word (word.Act act_of.Mailbox) = refl
spelling_names_word (word.Act act_of.Mchan) = refl
spelling_names_word (word.Act act_of.Exit) = refl
spelling_names_word (word.Act act_of.Yield) = refl
spelling_names_word (word.Act act_of.OwnThread) = refl
spelling_names_word (word.Act act_of.Now) = refl
spelling_names_word (word.ActOnOne one_of.Sync) = refl
spelling_names_word (word.ActOnOne one_of.MVar) = refl
spelling_names_word (word.ActOnOne one_of.Port) = refl
spelling_names_word (word.ActOnOne one_of.Copy) = refl
spelling_names_word (word.ActOnOne one_of.Print) = refl
spelling_names_word (word.ActOnTwo two_of.IPut) = refl
spelling_names_word (word.ActOnTwo two_of.MPut) = refl
spelling_names_word (word.ActOnTwo two_of.Mail) = refl
spelling_names_word (word.ActOnTwo two_of.Multicast) = refl

-- it has the variables of its parts
pub tested_map : {V W : Type 0} (f : V → W) (test : Tested) (e : PlainExpr V) (a : PlainStmts V) → stmt_map f (tested_stmt test e a) ≡ tested_stmt test (expr_map f e) (stmts_map f a)
tested_map f tested.While e a = refl

-- it is in order where its parts are
pub tested_fit : (ar : List ℕ) (n : ℕ) (test : Tested) (e : PlainExpr ℕ) (a : PlainStmts ℕ) → expr_fits ar n e ≡ true → stmts_fit ar n a ≡ true → stmt_fits ar n (tested_stmt test e a) ≡ true
tested_fit ar n tested.While e a p q = and_from _ _ p q

-- it is one statement, and those in it are counted with it
pub tested_count : {V : Type 0} (test : Tested) (e : PlainExpr V) (a : PlainStmts V) → stmt_count (tested_stmt test e a) ≡ stmts_count a + 1
tested_count tested.While e a = refl
