-- The keywords of a trace.
use Rattle.std.specs.Prelude.{ℕ, List, [], ◌∷◌, codes, find, Option, None, option_map}
use Rattle.std.specs.Str.{bytes_eq}
use Rattle.cml_text.specs.Forms.{PlainSexpr, plain_name}
use Rattle.cml_trace.specs.declared.keyword.Keyword.{Keyword}
use Rattle.cml_trace.specs.declared.keyword.Keyword.TheVariants.{Spawn, Chan, SwapChan, IVar, MVar, Mailbox, Mchan, Port, Copy, IPut, MPut, Mail, Multicast, Nack, Sync, Rows, Commit, End, Clock, Never}
use Rattle.cml_trace.specs.declared.keyword.Keyword.TheVariants.{Choose, Wrap, Scope, Always, Send, Recv, Swap, IGet, MTake, MGet, MSwap, MailRecv, PortRecv, Join, At, After, True, False, Pair, Thread}

-- how each keyword is spelled
abbrev pub spelling : Keyword → List ℕ
spelling Spawn = codes "spawn"
spelling Chan = codes "chan"
spelling SwapChan = codes "swapchan"
spelling IVar = codes "ivar"
spelling MVar = codes "mvar"
spelling Mailbox = codes "mailbox"
spelling Mchan = codes "mchan"
spelling Port = codes "port"
spelling Copy = codes "copy"
spelling IPut = codes "iput"
spelling MPut = codes "mput"
spelling Mail = codes "mail"
spelling Multicast = codes "multicast"
spelling Nack = codes "nack"
spelling Sync = codes "sync"
spelling Rows = codes "rows"
spelling Commit = codes "commit"
spelling End = codes "end"
spelling Clock = codes "clock"
spelling Never = codes "never"
spelling Choose = codes "choose"
spelling Wrap = codes "wrap"
spelling Scope = codes "scope"
spelling Always = codes "always"
spelling Send = codes "send"
spelling Recv = codes "recv"
spelling Swap = codes "swap"
spelling IGet = codes "iget"
spelling MTake = codes "mtake"
spelling MGet = codes "mget"
spelling MSwap = codes "mswap"
spelling MailRecv = codes "mailrecv"
spelling PortRecv = codes "portrecv"
spelling Join = codes "join"
spelling At = codes "at"
spelling After = codes "after"
spelling True = codes "true"
spelling False = codes "false"
spelling Pair = codes "pair"
spelling Thread = codes "thread"

-- each keyword once
abbrev pub all_keywords : List Keyword
all_keywords =
    Spawn ∷ Chan ∷ SwapChan ∷ IVar ∷ MVar ∷ Mailbox ∷ Mchan ∷
    Port ∷ Copy ∷ IPut ∷ MPut ∷ Mail ∷ Multicast ∷
    Nack ∷ Sync ∷ Rows ∷ Commit ∷ End ∷ Clock ∷
    Never ∷ Choose ∷ Wrap ∷ Scope ∷ Always ∷ Send ∷ Recv ∷ Swap ∷
    IGet ∷ MTake ∷ MGet ∷ MSwap ∷ MailRecv ∷ PortRecv ∷ Join ∷ At ∷ After ∷
    True ∷ False ∷ Pair ∷ Thread ∷ []

-- the keyword of this spelling, if there is one
abbrev pub keyword_of : List ℕ → Option Keyword
keyword_of name = find (λ keyword. bytes_eq (spelling keyword) name) all_keywords

-- the keyword that a form is, if it is one
abbrev pub keyword_from : PlainSexpr → Option Keyword
keyword_from (plain_name span name) = keyword_of name
keyword_from _ = None

-- the keyword at the head of a list of forms, and the forms after it
abbrev pub head_of : List PlainSexpr → Option (Keyword × List PlainSexpr)
head_of [] = None
head_of (first ∷ behind) = option_map (λ keyword. (keyword, behind)) (keyword_from first)
