-- What flattening comes to, level by level and value by value.
use Rattle.std.proofs.Common.{arith, true, false, ◌||◌, ◌==◌, ◌≡◌, ◌-◌, ◌+◌, ◌∙◌, ℕ, zero, suc, Bool, List, [], ◌∷◌, ◌++◌, Option, Some, None, Result, Ok, Err, refl, ap, sym, append_assoc, append-nil, length, length-append}
use Rattle.std.specs.Prelude.{nat_lt, flat_map, is_some, if◌then◌else◌}
use Rattle.std.specs.Option.{option_map_or}
use Rattle.std.specs.List.{list_any}
use Rattle.std.proofs.lemmas.List.Folds.{list_any-append}
use Rattle.std.proofs.lemmas.Bool.Decides.{nat_tests}
use Rattle.std.proofs.lemmas.Grind.{common_steps}
use Rattle.scons_base.specs.declared.limits.TheConstants.{LIST_LIMIT, NESTING_LIMIT}
use Rattle.py_heap.specs.declared.value.Value.{Value}
use Rattle.py_heap.specs.Heap.{Objects, items_of}
use Rattle.scons_calls.specs.declared.fault.CallFault.{CallFault}
use Rattle.scons_calls.specs.declared.fault.CallFault.TheVariants as fault
use Rattle.scons_calls.specs.Results.{along, and_then}
use Rattle.scons_calls.specs.Flattening.{Flat, is_list, opened, met, behind, flat_by, flat_items}

-- a value is met: an item, or a list that is gone into
abbrev gone_into : (Flat → List Value → Result Flat CallFault) → Flat → Value → Option (List Value) → Result Flat CallFault
gone_into inside flat x None = Ok (record { room = flat.room; items = flat.items ++ x ∷ [] })
gone_into inside flat x (Some inner) = inside flat inner

abbrev pub step : Objects → (Flat → List Value → Result Flat CallFault) → Flat → Value → Result Flat CallFault
step h inside flat x =
    if flat.room == 0 then Err fault.Arguments
    else gone_into inside (record { room = flat.room - 1; items = flat.items }) x (items_of h x)

abbrev too_deep : Flat → List Value → Result Flat CallFault
too_deep flat inner = Err fault.Arguments

-- what a list comes to, where lists may nest so many levels further
abbrev pub inside : Objects → ℕ → Flat → List Value → Result Flat CallFault
inside h zero = too_deep
inside h (suc levels) = flat_by h levels

or_true : (w : Bool) → (w || true) ≡ true
or_true true = refl
or_true false = refl

-- a test of both parts, and then of the second alone
both : (a p q w c : Bool) (x y : Flat) (k : Flat → Result Flat CallFault) → (a ≡ true → w ≡ true) → (a ≡ false → w ≡ c) → k x ≡ (if c || q then Err fault.Arguments else Ok y) → and_then (if a || p then Err fault.Arguments else Ok x) k ≡ (if w || (p || q) then Err fault.Arguments else Ok y)
both true p q w c x y k t f e = let s : w ≡ true = t refl in rw s refl
both false true q w c x y k t f e = let s : (w || true) ≡ true = or_true w in rw s refl
both false false q w c x y k t f e = let s : w ≡ c = f refl in rw s e

past_more : (room n m : ℕ) → nat_lt room n ≡ true → nat_lt room (n + m) ≡ true
past_more room n m e = grind (arith, nat_tests)

within_more : (room n m : ℕ) → nat_lt room n ≡ false → nat_lt room (n + m) ≡ nat_lt (room - n) m
within_more room n m e = grind (arith, nat_tests)

two_takes : (room n m : ℕ) → room - n - m ≡ room - (n + m)
two_takes room n m = omega arith

abbrev pub flat_with : ℕ → List Value → Flat
flat_with room items = record { room = room; items = items }

-- items behind items
behind_more : (h : Objects) (flat : Flat) (n m : ℕ) (xs ys : List Value) → and_then (behind h flat n xs) (λ f. behind h f m ys) ≡ behind h flat (n + m) (xs ++ ys)
behind_more h flat n m xs ys =
    let left : Flat = flat_with (flat.room - n) (flat.items ++ xs) in
    let last : Flat = flat_with (flat.room - (n + m)) (flat.items ++ (xs ++ ys)) in
    let room : flat_with (flat.room - n - m) ((flat.items ++ xs) ++ ys) ≡ flat_with (flat.room - (n + m)) ((flat.items ++ xs) ++ ys) = ap (λ r. flat_with r ((flat.items ++ xs) ++ ys)) (two_takes flat.room n m) in
    let items : flat_with (flat.room - (n + m)) ((flat.items ++ xs) ++ ys) ≡ last = ap (flat_with (flat.room - (n + m))) (append_assoc flat.items xs ys) in
    let here : behind h left m ys ≡ (if nat_lt (flat.room - n) m || list_any (is_list h) ys then Err fault.Arguments else Ok last) =
    ap (λ l. if nat_lt (flat.room - n) m || list_any (is_list h) ys then Err fault.Arguments else Ok l) (room ∙ items) in
    rw (list_any-append (is_list h) xs ys)
    (both (nat_lt flat.room n) (list_any (is_list h) xs) (list_any (is_list h) ys) (nat_lt flat.room (n + m)) (nat_lt (flat.room - n) m) left last (λ f. behind h f m ys) (past_more flat.room n m) (within_more flat.room n m) here)

then_same : (made : Result Flat CallFault) (f g : Flat → Result Flat CallFault) → ((t : Flat) → f t ≡ g t) → and_then made f ≡ and_then made g
then_same (Ok t) f g e = e t
then_same (Err k) f g e = refl

none_met : (h : Objects) (flat : Flat) → Ok flat ≡ behind h flat 0 []
none_met h flat = grind (arith, common_steps)

-- value by value
each_behind : (h : Objects) (one : Flat → Value → Result Flat CallFault) (meets gives : Value → List Value) → ((f : Flat) (x : Value) → one f x ≡ behind h f (length (meets x)) (gives x)) → (flat : Flat) (values : List Value) → along one flat values ≡ behind h flat (length (flat_map meets values)) (flat_map gives values)
each_behind h one meets gives is flat [] = none_met h flat
each_behind h one meets gives is flat (x ∷ values) =
    let rest : and_then (one flat x) (λ t. along one t values) ≡ and_then (one flat x) (λ t. behind h t (length (flat_map meets values)) (flat_map gives values)) = then_same (one flat x) _ _ (λ t. each_behind h one meets gives is t values) in
    let first : and_then (one flat x) (λ t. behind h t (length (flat_map meets values)) (flat_map gives values)) ≡ and_then (behind h flat (length (meets x)) (gives x)) (λ t. behind h t (length (flat_map meets values)) (flat_map gives values)) = ap (λ made. and_then made (λ t. behind h t (length (flat_map meets values)) (flat_map gives values))) (is flat x) in
    rest ∙ first ∙ behind_more h flat (length (meets x)) (length (flat_map meets values)) (gives x) (flat_map gives values)
    ∙ ap (λ n. behind h flat n (gives x ++ flat_map gives values)) (sym (length-append (meets x) (flat_map meets values)))

-- no value is met where no room is left
under_one : (n : ℕ) → (n == 0) ≡ nat_lt n 1
under_one n = grind (arith, nat_tests)

tested : {X : Type 0} (a b : Bool) (e r : X) → a ≡ b → (if a then e else r) ≡ (if b || false then e else r)
tested a true e r is = rw is refl
tested a false e r is = rw is refl

-- an item: a value that is no list
item_behind : (h : Objects) (inside : Flat → List Value → Result Flat CallFault) (flat : Flat) (x : Value) → items_of h x ≡ None → step h inside flat x ≡ behind h flat 1 (x ∷ [])
item_behind h inside flat x none =
    let left : Flat = flat_with (flat.room - 1) flat.items in
    let more : Flat = flat_with (flat.room - 1) (flat.items ++ x ∷ []) in
    let here : step h inside flat x ≡ (if flat.room == 0 then Err fault.Arguments else Ok more) = ap (λ o. if flat.room == 0 then Err fault.Arguments else gone_into inside left x o) none in
    let there : behind h flat 1 (x ∷ []) ≡ (if nat_lt flat.room 1 || false then Err fault.Arguments else Ok more) = ap (λ (o : Option (List Value)). if nat_lt flat.room 1 || (is_some o || false) then Err fault.Arguments else Ok more) none in
    here ∙ tested (flat.room == 0) (nat_lt flat.room 1) (Err fault.Arguments) (Ok more) (under_one flat.room) ∙ sym there

refused : {X : Type 0} (a b : Bool) (e r : X) → (if a then e else e) ≡ (if b || true then e else r)
refused true true e r = refl
refused true false e r = refl
refused false true e r = refl
refused false false e r = refl

-- a list where none may nest
deep_behind : (h : Objects) (flat : Flat) (x : Value) (inner : List Value) → items_of h x ≡ Some inner → step h too_deep flat x ≡ behind h flat 1 (x ∷ [])
deep_behind h flat x inner some =
    let left : Flat = flat_with (flat.room - 1) flat.items in
    let more : Flat = flat_with (flat.room - 1) (flat.items ++ x ∷ []) in
    let here : step h too_deep flat x ≡ (if flat.room == 0 then Err fault.Arguments else Err fault.Arguments) = ap (λ o. if flat.room == 0 then Err fault.Arguments else gone_into too_deep left x o) some in
    let there : behind h flat 1 (x ∷ []) ≡ (if nat_lt flat.room 1 || true then Err fault.Arguments else Ok more) = ap (λ (o : Option (List Value)). if nat_lt flat.room 1 || (is_some o || false) then Err fault.Arguments else Ok more) some in
    here ∙ refused (flat.room == 0) (nat_lt flat.room 1) (Err fault.Arguments) (Ok more) ∙ sym there

entered : (a b : Bool) (x : Flat) (k : Flat → Result Flat CallFault) → a ≡ b → (if a then Err fault.Arguments else k x) ≡ and_then (if b || false then Err fault.Arguments else Ok x) k
entered a true x k is = rw is refl
entered a false x k is = rw is refl

no_more : (flat : Flat) (n : ℕ) → flat_with (flat.room - n) flat.items ≡ flat_with (flat.room - n) (flat.items ++ [])
no_more flat n = ap (flat_with (flat.room - n)) (sym (append-nil flat.items))

-- a list that is gone into
list_behind : (h : Objects) (inside : Flat → List Value → Result Flat CallFault) (flat : Flat) (x : Value) (inner xs : List Value) (n : ℕ) → items_of h x ≡ Some inner → ((f : Flat) → inside f inner ≡ behind h f n xs) → step h inside flat x ≡ behind h flat (suc n) xs
list_behind h inside flat x inner xs n some is =
    let left : Flat = flat_with (flat.room - 1) flat.items in
    let next : Flat = flat_with (flat.room - 1) (flat.items ++ []) in
    let here : step h inside flat x ≡ (if flat.room == 0 then Err fault.Arguments else inside left inner) = ap (λ o. if flat.room == 0 then Err fault.Arguments else gone_into inside left x o) some in
    let gone : inside left inner ≡ behind h next n xs = is left ∙ ap (λ f. behind h f n xs) (no_more flat 1) in
    let there : (if flat.room == 0 then Err fault.Arguments else inside left inner) ≡ (if flat.room == 0 then Err fault.Arguments else behind h next n xs) = ap (λ made. if flat.room == 0 then Err fault.Arguments else made) gone in
    let all : and_then (behind h flat 1 []) (λ f. behind h f n xs) ≡ behind h flat (1 + n) xs = behind_more h flat 1 n [] xs in
    let count : 1 + n ≡ suc n = omega arith in
    here ∙ there ∙ entered (flat.room == 0) (nat_lt flat.room 1) next (λ f. behind h f n xs) (under_one flat.room) ∙ all ∙ ap (λ m. behind h flat m xs) count

step_zero : (h : Objects) (flat : Flat) (x : Value) → step h too_deep flat x ≡ behind h flat 1 (x ∷ [])
step_zero h flat x = by (items_of h x) refl
  where
    by : (o : Option (List Value)) → items_of h x ≡ o → step h too_deep flat x ≡ behind h flat 1 (x ∷ [])
    by None is = item_behind h too_deep flat x is
    by (Some inner) is = deep_behind h flat x inner is

abbrev meets : Objects → ℕ → Value → List Value
meets h levels x = x ∷ option_map_or (met h levels) (items_of h x) []

abbrev gives : Objects → ℕ → Value → List Value
gives h levels x = option_map_or (opened h levels) (items_of h x) (x ∷ [])

step_suc : (h : Objects) (levels : ℕ) (flat : Flat) (x : Value) → step h (flat_by h levels) flat x ≡ behind h flat (length (meets h levels x)) (gives h levels x)
step_suc h levels flat x = by (items_of h x) refl
  where
    by : (o : Option (List Value)) → items_of h x ≡ o → step h (flat_by h levels) flat x ≡ behind h flat (length (meets h levels x)) (gives h levels x)
    by None is =
        let here : behind h flat (length (meets h levels x)) (gives h levels x) ≡ behind h flat 1 (x ∷ []) = ap (λ (o : Option (List Value)). behind h flat (length (x ∷ option_map_or (met h levels) o [])) (option_map_or (opened h levels) o (x ∷ []))) is in
        item_behind h (flat_by h levels) flat x is ∙ sym here
    by (Some inner) is =
        let here : behind h flat (length (meets h levels x)) (gives h levels x) ≡ behind h flat (suc (length (met h levels inner))) (opened h levels inner) = ap (λ (o : Option (List Value)). behind h flat (length (x ∷ option_map_or (met h levels) o [])) (option_map_or (opened h levels) o (x ∷ []))) is in
        list_behind h (flat_by h levels) flat x inner (opened h levels inner) (length (met h levels inner)) is (λ f. refl) ∙ sym here

each_alone : (values : List Value) → flat_map (λ x. x ∷ []) values ≡ values
each_alone [] = refl
each_alone (x ∷ values) = ap (λ vs. x ∷ vs) (each_alone values)

-- what one value after another comes to is what all of them come to
pub flat_whole : (h : Objects) (levels : ℕ) (flat : Flat) (values : List Value) → along (step h (inside h levels)) flat values ≡ flat_by h levels flat values
unfolding met opened
flat_whole h zero flat values =
    each_behind h (step h too_deep) (λ x. x ∷ []) (λ x. x ∷ []) (step_zero h) flat values
    ∙ ap (λ vs. behind h flat (length vs) vs) (each_alone values)
flat_whole h (suc levels) flat values = each_behind h (step h (flat_by h levels)) (meets h levels) (gives h levels) (step_suc h levels) flat values

alone : (test : Bool) (room : ℕ) (items : List Value) → (if test then Err fault.Arguments else Ok items) ≡ and_then (if test then Err fault.Arguments else Ok (flat_with room items)) (λ f. Ok f.items)
alone true room items = refl
alone false room items = refl

-- the items without what was counted
pub items_alone : (h : Objects) (values : List Value) → flat_items h values ≡ and_then (flat_by h NESTING_LIMIT (flat_with LIST_LIMIT []) values) (λ f. Ok f.items)
items_alone h values = alone _ _ _

-- what is met at a step
pub item_step : (h : Objects) (inside : Flat → List Value → Result Flat CallFault) (flat : Flat) (x : Value) → (flat.room == 0) ≡ false → items_of h x ≡ None → step h inside flat x ≡ Ok (flat_with (flat.room - 1) (flat.items ++ x ∷ []))
item_step h inside flat x room none = rw (room, none) refl

pub list_step : (h : Objects) (inside : Flat → List Value → Result Flat CallFault) (flat : Flat) (x : Value) (inner : List Value) (r : Result Flat CallFault) → (flat.room == 0) ≡ false → items_of h x ≡ Some inner → inside (flat_with (flat.room - 1) flat.items) inner ≡ r → step h inside flat x ≡ r
list_step h inside flat x inner r room some is = rw (room, some) is

pub full_step : (h : Objects) (inside : Flat → List Value → Result Flat CallFault) (flat : Flat) (x : Value) → (flat.room == 0) ≡ true → step h inside flat x ≡ Err fault.Arguments
full_step h inside flat x room = rw room refl

-- at the last level, and above it
pub inside_none : (h : Objects) (levels : ℕ) (flat : Flat) (inner : List Value) → levels ≡ 0 → inside h levels flat inner ≡ Err fault.Arguments
inside_none h levels flat inner e = ap (λ n. inside h n flat inner) e

pub inside_below : (h : Objects) (levels : ℕ) (flat : Flat) (inner : List Value) (r : Result Flat CallFault) → (levels ≡ 0 → ⊥) → flat_by h (levels - 1) flat inner ≡ r → inside h levels flat inner ≡ r
inside_below h zero flat inner r above is = absurd (above refl)
inside_below h (suc levels) flat inner r above is =
    let below : suc levels - 1 ≡ levels = omega arith in
    ap (λ n. flat_by h n flat inner) (sym below) ∙ is

pub ruleset flats = (flat_whole, items_alone, item_step, list_step, full_step)
