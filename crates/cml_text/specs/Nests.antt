-- The lexemes that have been read so far, as the lists that are open and the forms of the innermost.
use Rattle.std.specs.Prelude.{◌≡◌, ℕ, List, [], ◌∷◌, ◌++◌, map, reverse}
use Rattle.cml_text.specs.declared.fault.TextFault.{TextFault}
use Rattle.cml_text.specs.declared.nest.OpenList.{OpenList}
use Rattle.cml_text.specs.Forms.{PlainSexpr, plain_forms}
use Rattle.cml_text.specs.Lexemes.{Lexeme, opening}
use Rattle.cml_text.specs.Texts.{words_of, first_fault}
use Rattle.cml_text.specs.Steps.{IsFault}

-- the lexemes of these forms
abbrev pub words_in : List PlainSexpr → List Lexeme
words_in forms = words_of (plain_forms forms)

-- the lexemes up to the start of the innermost open list, the outermost list first
abbrev pub words_before : List OpenList → List Lexeme
words_before [] = []
words_before (list ∷ others) = words_in list.before.items ++ opening list.start ∷ words_before others

abbrev pub words_so_far : List OpenList → List PlainSexpr → List Lexeme
words_so_far lists forms = words_before lists ++ words_in forms

-- where the open lists start, the innermost first
abbrev pub starts : List OpenList → List ℕ
starts lists = reverse (map (λ list. list.start) lists)

-- the lexeme was taken
pub record TakesWord (word : Lexeme) (lists : List OpenList) (forms : List PlainSexpr) (lists' : List OpenList) (forms' : List PlainSexpr) : Type 0 where
  pub taken : words_so_far lists' forms' ≡ words_so_far lists forms ++ word ∷ []
  pub goes_on : (rest : List Lexeme) → first_fault (word ∷ rest) (starts lists) ≡ first_fault rest (starts lists')

-- the lexeme is at fault, unless memory ran out
abbrev pub FaultsAt : Lexeme → List OpenList → TextFault → Type 0
FaultsAt word lists fault = (rest : List Lexeme) → IsFault fault (first_fault (word ∷ rest) (starts lists))
