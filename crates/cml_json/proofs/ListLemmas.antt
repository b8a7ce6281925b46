-- Lists and objects of JSON, one item after another.
use Rattle.std.proofs.Common.{◌≡◌, ◌∙◌, ℕ, zero, suc, ◌+◌, ◌<◌, List, [], ◌∷◌, ◌++◌, length, map, take, get_or, codes, refl, sym, ap, arith, append_assoc, append-nil}
use Rattle.std.specs.Prelude.{Bool, true, false, not, Option, Some, None, is_some, is_none}
use Rattle.std.specs.List.{flat_map}
use Rattle.std.proofs.lemmas.List.{flat_map_more, length-map, length-take-le, map_push, take_more}
use Rattle.std.proofs.lemmas.List.Concat.{flat_map-append}
use Rattle.cml_text.specs.Lines.{line}
use Rattle.cml_json.specs.Json.{comma_before, commas, object}

comma_pushed : (texts : List (List ℕ)) (i : ℕ) (one : List ℕ) → length texts ≡ i → commas (texts ++ one ∷ []) ≡ commas texts ++ (comma_before i ++ one)
comma_pushed [] zero one long = append-nil one
comma_pushed [] (suc i) one long = absurd (omega (arith, long))
comma_pushed (first ∷ texts) zero one long = absurd (omega (arith, long))
comma_pushed (first ∷ texts) (suc i) one long = sym (flat_map_more (λ y. codes "," ++ y) first texts one)

-- one item more of a list, where each has a text
pub list_next : {A : Type 0} (f : A → List ℕ) (start old mid new : List ℕ) (xs : List A) (i : ℕ) (d x : A) → i < length xs → x ≡ get_or xs i d
    → old ≡ start ++ commas (map f (take i xs)) → mid ≡ old ++ comma_before i → new ≡ mid ++ f x → new ≡ start ++ commas (map f (take (i + 1) xs))
list_next f start old mid new xs i d x within is was comma more =
    let before = map f (take i xs) in
    let long : length before ≡ i = length-map (take i xs) f ∙ length-take-le i xs (omega arith) in
    let split : map f (take (i + 1) xs) ≡ before ++ f x ∷ [] =
    ap (map f) (take_more xs i d within) ∙ (map_push f (take i xs) (get_or xs i d) ∙ ap (λ b. before ++ f b ∷ []) (sym is)) in
    let so_far : new ≡ ((start ++ commas before) ++ comma_before i) ++ f x = more ∙ ap (λ t. t ++ f x) (comma ∙ ap (λ t. t ++ comma_before i) was) in
    so_far ∙ (append_assoc (start ++ commas before) (comma_before i) (f x) ∙ (append_assoc start (commas before) (comma_before i ++ f x)
    ∙ (ap (λ t. start ++ t) (sym (comma_pushed before i (f x) long)) ∙ sym (ap (λ ts. start ++ commas ts) split))))

-- the list is closed
pub list_done : (old cs new : List ℕ) → new ≡ ((old ++ codes "[") ++ cs) ++ codes "]" → new ≡ old ++ ((codes "[" ++ cs) ++ codes "]")
list_done old cs new is = is ∙ simp append_assoc refl

-- ---- objects, one member after another

-- behind an old text stand this start and these members
pub record Behind (start old new : List ℕ) (members : List (List ℕ)) : Type 0 where
  pub is : new ≡ old ++ (start ++ commas members)

pub first_member : (start old new one : List ℕ) → new ≡ old ++ (start ++ one) → Behind start old new (one ∷ [])
first_member start old new one is = record { is = is ∙ ap (λ t. old ++ (start ++ t)) (sym (append-nil one)) }

-- the first, whose text is this one
pub first_as : (start old new one text : List ℕ) → one ≡ text → new ≡ old ++ (start ++ one) → Behind start old new (text ∷ [])
first_as start old new one text same is = first_member start old new text (is ∙ ap (λ t. old ++ (start ++ t)) same)

commas_append : (first : List ℕ) (members : List (List ℕ)) (second : List ℕ) (others : List (List ℕ))
    → commas (first ∷ (members ++ second ∷ others)) ≡ commas (first ∷ members) ++ (codes "," ++ commas (second ∷ others))
commas_append first members second others =
    ap (λ t. first ++ t) (flat_map-append (λ y. codes "," ++ y) members (second ∷ others))
    ∙ sym (append_assoc first (flat_map (λ y. codes "," ++ y) members) (flat_map (λ y. codes "," ++ y) (second ∷ others)))

-- more of them
pub more_members : (start old mid new first : List ℕ) (members : List (List ℕ)) (second : List ℕ) (others : List (List ℕ)) → Behind start old mid (first ∷ members)
    → new ≡ mid ++ (codes "," ++ commas (second ∷ others)) → Behind start old new (first ∷ (members ++ second ∷ others))
more_members start old mid new first members second others was more =
    let behind = codes "," ++ commas (second ∷ others) in
    let all : (start ++ commas (first ∷ members)) ++ behind ≡ start ++ commas (first ∷ (members ++ second ∷ others)) =
    append_assoc start (commas (first ∷ members)) behind ∙ ap (λ t. start ++ t) (sym (commas_append first members second others)) in
    record { is = more ∙ (ap (λ t. t ++ behind) was.is ∙ (append_assoc old (start ++ commas (first ∷ members)) behind ∙ ap (λ t. old ++ t) all)) }

-- one more
pub next_member : (start old mid new first : List ℕ) (members : List (List ℕ)) (one : List ℕ) → Behind start old mid (first ∷ members)
    → new ≡ mid ++ (codes "," ++ one) → Behind start old new (first ∷ (members ++ one ∷ []))
next_member start old mid new first members one was more =
    more_members start old mid new first members one [] was (more ∙ ap (λ t. mid ++ (codes "," ++ t)) (sym (append-nil one)))

-- one more, whose text is this one
pub next_as : (start old mid new first : List ℕ) (members : List (List ℕ)) (one text : List ℕ) → Behind start old mid (first ∷ members)
    → one ≡ text → new ≡ mid ++ (codes "," ++ one) → Behind start old new (first ∷ (members ++ text ∷ []))
next_as start old mid new first members one text was same more =
    next_member start old mid new first members text was (more ∙ ap (λ t. mid ++ (codes "," ++ t)) same)

-- three more
pub three_members : (start old mid new first : List ℕ) (members : List (List ℕ)) (a b c : List ℕ) → Behind start old mid (first ∷ members)
    → new ≡ mid ++ (codes "," ++ ((a ++ (codes "," ++ b)) ++ (codes "," ++ c))) → Behind start old new (first ∷ (members ++ a ∷ b ∷ c ∷ []))
three_members start old mid new first members a b c was more =
    let all : (a ++ (codes "," ++ b)) ++ (codes "," ++ c) ≡ commas (a ∷ b ∷ c ∷ []) =
    append_assoc a (codes "," ++ b) (codes "," ++ c) ∙ ap (λ t. a ++ ((codes "," ++ b) ++ t)) (sym (append-nil (codes "," ++ c))) in
    more_members start old mid new first members a (b ∷ c ∷ []) was (more ∙ ap (λ t. mid ++ (codes "," ++ t)) all)

-- a text in two pieces
pub both : (a b c x y : List ℕ) → b ≡ a ++ x → c ≡ b ++ y → c ≡ a ++ (x ++ y)
both a b c x y first more = more ∙ (ap (λ t. t ++ y) first ∙ append_assoc a x y)

-- a text in three pieces, which are these
pub three_pieces : (a b c d x y z xs ys zs : List ℕ) → x ≡ xs → y ≡ ys → z ≡ zs → b ≡ a ++ x → c ≡ b ++ y → d ≡ c ++ z → d ≡ a ++ ((xs ++ ys) ++ zs)
three_pieces a b c d x y z xs ys zs is_x is_y is_z first then last =
    both a c d (x ++ y) z (both a b c x y first then) last
    ∙ (ap (λ t. a ++ ((t ++ y) ++ z)) is_x ∙ (ap (λ t. a ++ ((xs ++ t) ++ z)) is_y ∙ ap (λ t. a ++ ((xs ++ ys) ++ t)) is_z))

-- it is none
pub none_is : {A : Type 0} (o : Option A) (b : Bool) → is_some o ≡ not b → b ≡ is_none o
none_is None true is = refl
none_is None false is = absurd (cc)
none_is (Some one) true is = absurd (cc)
none_is (Some one) false is = refl

-- the object is closed
pub closed : (old mid new : List ℕ) (members : List (List ℕ)) → Behind (codes "{") old mid members → new ≡ mid ++ codes "}" → new ≡ old ++ object members
closed old mid new members was more =
    more ∙ (ap (λ t. t ++ codes "}") was.is ∙ (append_assoc old (codes "{" ++ commas members) (codes "}")
    ∙ ap (λ t. old ++ t) (append_assoc (codes "{") (commas members) (codes "}"))))

-- and so is its line
pub line_closed : (old mid new : List ℕ) (members : List (List ℕ)) → old ≡ [] → Behind (codes "{") old mid members → new ≡ mid ++ codes "}\n" → new ≡ line (object members)
line_closed old mid new members none was more =
    more ∙ (ap (λ t. t ++ codes "}\n") (was.is ∙ ap (λ t. t ++ (codes "{" ++ commas members)) none)
    ∙ ap (λ t. codes "{" ++ t) (sym (append_assoc (commas members) (codes "}") (10 ∷ []))))
