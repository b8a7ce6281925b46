-- The words of the kinds of properties.
use Rattle.std.specs.Prelude.{ℕ, List, [], ◌∷◌, Option, codes, find, bytes_eq}
use Rattle.cml_properties.specs.declared.kind.PropertyKind.{PropertyKind}
use Rattle.cml_properties.specs.declared.kind.PropertyKind.TheVariants.{Never, Always, Once, Before, SameLines, SameOrder, Empty}

-- the word with which a property of the kind begins
abbrev pub kind_word : PropertyKind → List ℕ
kind_word Never = codes "never"
kind_word Always = codes "always"
kind_word Once = codes "once"
kind_word Before = codes "before"
kind_word SameLines = codes "same-lines"
kind_word SameOrder = codes "same-order"
kind_word Empty = codes "empty"

abbrev pub all_kinds : List PropertyKind
all_kinds = Never ∷ Always ∷ Once ∷ Before ∷ SameLines ∷ SameOrder ∷ Empty ∷ []

-- the kind that has this word, if there is one
abbrev pub kind_of : List ℕ → Option PropertyKind
kind_of word = find (λ kind. bytes_eq (kind_word kind) word) all_kinds
