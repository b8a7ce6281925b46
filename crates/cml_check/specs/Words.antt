-- The keywords of a script. No function, parameter or variable has one of them as its name.
use Rattle.std.specs.Prelude.{ℕ, List, [], ◌∷◌, codes, find, Option, None}
use Rattle.std.specs.Str.{bytes_eq}
use Rattle.cml_text.specs.Forms.{PlainSexpr, plain_name}
use Rattle.cml_check.specs.declared.word.Word.{Word}
use Rattle.cml_check.specs.declared.word.Word.TheVariants as word
use Rattle.cml_check.specs.declared.word.Tested.{Tested}
use Rattle.cml_check.specs.declared.word.Tested.TheVariants as tested
use Rattle.cml_check.specs.declared.syntax.Constant.{Constant}
use Rattle.cml_check.specs.declared.syntax.Constant.TheVariants as constant_of
use Rattle.cml_check.specs.declared.syntax.Unary.{Unary}
use Rattle.cml_check.specs.declared.syntax.Unary.TheVariants as unary_of
use Rattle.cml_check.specs.declared.syntax.Binary.{Binary}
use Rattle.cml_check.specs.declared.syntax.Binary.TheVariants as binary_of
use Rattle.cml_check.specs.declared.syntax.Act.{Act}
use Rattle.cml_check.specs.declared.syntax.Act.TheVariants as act_of
use Rattle.cml_check.specs.declared.syntax.ActOnOne.{ActOnOne}
use Rattle.cml_check.specs.declared.syntax.ActOnOne.TheVariants as one_of
use Rattle.cml_check.specs.declared.syntax.ActOnTwo.{ActOnTwo}
use Rattle.cml_check.specs.declared.syntax.ActOnTwo.TheVariants as two_of

abbrev pub tested_spelling : Tested → List ℕ
tested_spelling tested.While = codes "while"

abbrev pub constant_spelling : Constant → List ℕ
constant_spelling constant_of.True = codes "true"
constant_spelling constant_of.False = codes "false"
constant_spelling constant_of.Unit = codes "unit"
constant_spelling constant_of.Never = codes "never"

abbrev pub unary_spelling : Unary → List ℕ
unary_spelling unary_of.Not = codes "not"
unary_spelling unary_of.Fst = codes "fst"
unary_spelling unary_of.Snd = codes "snd"
unary_spelling unary_of.Always = codes "always"
unary_spelling unary_of.Recv = codes "recv"
unary_spelling unary_of.IGet = codes "iget"
unary_spelling unary_of.MTake = codes "mtake"
unary_spelling unary_of.MGet = codes "mget"
unary_spelling unary_of.MailRecv = codes "mailrecv"
unary_spelling unary_of.PortRecv = codes "portrecv"
unary_spelling unary_of.Join = codes "join"
unary_spelling unary_of.At = codes "at"
unary_spelling unary_of.After = codes "after"

abbrev pub binary_spelling : Binary → List ℕ
binary_spelling binary_of.Plus = codes "+"
binary_spelling binary_of.Minus = codes "-"
binary_spelling binary_of.Times = codes "*"
binary_spelling binary_of.Less = codes "<"
binary_spelling binary_of.Equal = codes "="
binary_spelling binary_of.Pair = codes "pair"
binary_spelling binary_of.Send = codes "send"
binary_spelling binary_of.Swap = codes "swap"
binary_spelling binary_of.MSwap = codes "mswap"

abbrev pub act_spelling : Act → List ℕ
act_spelling act_of.Chan = codes "chan"
act_spelling act_of.SwapChan = codes "swapchan"
act_spelling act_of.IVar = codes "ivar"
act_spelling act_of.MVar = codes "mvar"
act_spelling act_of.Mailbox = codes "mailbox"
act_spelling act_of.Mchan = codes "mchan"
act_spelling act_of.Exit = codes "exit"
act_spelling act_of.Yield = codes "yield"
act_spelling act_of.OwnThread = codes "self"
act_spelling act_of.Now = codes "now"

abbrev pub one_spelling : ActOnOne → List ℕ
one_spelling one_of.Sync = codes "sync"
one_spelling one_of.MVar = codes "mvar"
one_spelling one_of.Port = codes "port"
one_spelling one_of.Copy = codes "copy"
one_spelling one_of.Print = codes "print"

abbrev pub two_spelling : ActOnTwo → List ℕ
two_spelling two_of.IPut = codes "iput"
two_spelling two_of.MPut = codes "mput"
two_spelling two_of.Mail = codes "mail"
two_spelling two_of.Multicast = codes "multicast"

-- how each keyword is spelled
abbrev pub word_spelling : Word → List ℕ
word_spelling word.Fn = codes "fn"
word_spelling word.Do = codes "do"
word_spelling word.Let = codes "let"
word_spelling word.Set = codes "set"
word_spelling word.If = codes "if"
word_spelling (word.Tested test) = tested_spelling test
word_spelling word.Return = codes "return"
word_spelling word.Call = codes "call"
word_spelling word.Spawn = codes "spawn"
word_spelling word.Choose = codes "choose"
word_spelling word.Wrap = codes "wrap"
word_spelling word.Guard = codes "guard"
word_spelling word.WithNack = codes "withnack"
word_spelling word.MVar = codes "mvar"
word_spelling (word.Constant constant) = constant_spelling constant
word_spelling (word.Unary unary) = unary_spelling unary
word_spelling (word.Binary binary) = binary_spelling binary
word_spelling (word.Act act) = act_spelling act
word_spelling (word.ActOnOne act) = one_spelling act
word_spelling (word.ActOnTwo act) = two_spelling act

-- each keyword once
abbrev pub all_words : List Word
all_words =
    word.Fn ∷ word.Do ∷ word.Let ∷ word.Set ∷ word.If ∷ word.Tested tested.While ∷ word.Return ∷ word.Call ∷ word.Spawn ∷ word.Choose ∷ word.Wrap ∷ word.Guard ∷ word.WithNack ∷ word.MVar ∷
    word.Constant constant_of.True ∷ word.Constant constant_of.False ∷ word.Constant constant_of.Unit ∷ word.Constant constant_of.Never ∷
    word.Unary unary_of.Not ∷ word.Unary unary_of.Fst ∷ word.Unary unary_of.Snd ∷ word.Unary unary_of.Always ∷
    word.Unary unary_of.Recv ∷ word.Unary unary_of.IGet ∷ word.Unary unary_of.MTake ∷ word.Unary unary_of.MGet ∷
    word.Unary unary_of.MailRecv ∷ word.Unary unary_of.PortRecv ∷ word.Unary unary_of.Join ∷ word.Unary unary_of.At ∷ word.Unary unary_of.After ∷
    word.Binary binary_of.Plus ∷ word.Binary binary_of.Minus ∷ word.Binary binary_of.Times ∷ word.Binary binary_of.Less ∷
    word.Binary binary_of.Equal ∷ word.Binary binary_of.Pair ∷ word.Binary binary_of.Send ∷ word.Binary binary_of.Swap ∷ word.Binary binary_of.MSwap ∷
    word.Act act_of.Chan ∷ word.Act act_of.SwapChan ∷ word.Act act_of.IVar ∷ word.Act act_of.Mailbox ∷
    word.Act act_of.Mchan ∷ word.Act act_of.Exit ∷ word.Act act_of.Yield ∷ word.Act act_of.OwnThread ∷ word.Act act_of.Now ∷
    word.ActOnOne one_of.Sync ∷ word.ActOnOne one_of.Port ∷ word.ActOnOne one_of.Copy ∷ word.ActOnOne one_of.Print ∷
    word.ActOnTwo two_of.IPut ∷ word.ActOnTwo two_of.MPut ∷ word.ActOnTwo two_of.Mail ∷ word.ActOnTwo two_of.Multicast ∷ []

-- the keyword of this spelling, if there is one
abbrev pub word_of : List ℕ → Option Word
word_of name = find (λ word. bytes_eq (word_spelling word) name) all_words

-- the keyword that a form is, if it is one
abbrev pub word_from : PlainSexpr → Option Word
word_from (plain_name span name) = word_of name
word_from _ = None
