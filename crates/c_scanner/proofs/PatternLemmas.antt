-- The include word of a line is what its regular expression matches.
use Rattle.std.proofs.Common.{◌≡◌, ℕ, zero, suc, ◌<◌, ◌≤◌, ◌+◌, Bool, true, false, cond, eqb, ltb, List, [], ◌∷◌, ◌++◌, length, take, drop, get_or, Option, Some, None, refl, sym, ap, subst, ◌∙◌, arith, inl, inr, append_assoc}
use Rattle.std.specs.Prelude.{◌==◌, ◌||◌, ◌⊎◌, ◌↔◌, not, codes, nat_eq, position}
use Rattle.std.specs.List.{AllByRecursion, starts_with, prefix_len, position_or_len}
use Rattle.std.specs.Option.{option_and_then}
use Rattle.std.proofs.lemmas.Bool.{eqb-true, ne_eqb, lt-ltb, ltb-true}
use Rattle.std.proofs.lemmas.Bool.Decides.{Decides-eqb}
use Rattle.std.proofs.lemmas.List.{take_at, take-append-drop, drop_more, length-append, length-take-le}
use Rattle.std.proofs.lemmas.Slice.Eq.{starts_is}
use Rattle.c_scanner.specs.declared.line.Include.{Include}
use Rattle.c_scanner.specs.Lines.{is_blank, without_blanks, behind, behind_either, behind_directive, quote, angle, ends_name, mark_in_front, opened_by, opened}
use Rattle.c_scanner.specs.Includes.{named_to, named, include_of}
use Rattle.c_scanner.specs.Patterns.{AreBlanks, behind_mark, Matches}

bind : {A B : Type 0} (f : A → Option B) (o : Option A) (y : B) → option_and_then f o ≡ Some y → (x : A) × (o ≡ Some x) × (f x ≡ Some y)
bind f None y e = absurd cc
bind f (Some x) y e = (x, refl, e)

guard : {A : Type 0} (b : Bool) (x y : A) → cond b (Some x) None ≡ Some y → (b ≡ true) × (x ≡ y)
guard true x y e = (refl, cc)
guard false x y e = absurd cc

abbrev some : {A : Type 0} → A → Option A
some x = Some x

some_is : {A : Type 0} (x y : A) → some x ≡ some y → x ≡ y
some_is x y e = cc

-- ---- a match is found

skip : (front : List ℕ) (byte : ℕ) (rest : List ℕ) → AreBlanks front → is_blank byte ≡ false → without_blanks (front ++ byte ∷ rest) ≡ byte ∷ rest
skip [] byte rest blanks not_blank = rw not_blank refl
skip (b ∷ front) byte rest blanks not_blank = rw blanks.0 (skip front byte rest blanks.1 not_blank)

directive_found : (gap word behind_word : List ℕ) → AreBlanks gap → (word ≡ codes "include") ⊎ (word ≡ codes "import") → behind_directive (gap ++ (word ++ behind_word)) ≡ Some behind_word
directive_found gap word behind_word blanks is =
    elim is [
      | inl e ↦ ap (λ (w : List ℕ). behind_directive (gap ++ (w ++ behind_word))) e ∙ ap (λ (t : List ℕ). behind_either (behind (codes "include") t) (behind (codes "import") t)) (skip gap 105 (110 ∷ 99 ∷ 108 ∷ 117 ∷ 100 ∷ 101 ∷ behind_word) blanks refl)
      | inr e ↦ ap (λ (w : List ℕ). behind_directive (gap ++ (w ++ behind_word))) e ∙ ap (λ (t : List ℕ). behind_either (behind (codes "include") t) (behind (codes "import") t)) (skip gap 105 (109 ∷ 112 ∷ 111 ∷ 114 ∷ 116 ∷ behind_word) blanks refl)
    ]

mark_found : (space : List ℕ) (mark : ℕ) (rest : List ℕ) → AreBlanks space → (mark ≡ quote) ⊎ (mark ≡ angle) → opened_by (space ++ (mark ∷ rest)) ≡ Some (mark, rest)
mark_found space mark rest blanks is =
    elim is [
      | inl e ↦ subst (λ (m : ℕ). opened_by (space ++ (m ∷ rest)) ≡ Some (m, rest)) (sym e) (ap mark_in_front (skip space quote rest blanks refl))
      | inr e ↦ subst (λ (m : ℕ). opened_by (space ++ (m ∷ rest)) ≡ Some (m, rest)) (sym e) (ap mark_in_front (skip space angle rest blanks refl))
    ]

end_found : (name : List ℕ) (close : ℕ) (rest : List ℕ) → AllByRecursion (λ byte. ends_name byte ≡ false) name → ends_name close ≡ true → position_or_len ends_name (name ++ close ∷ rest) ≡ length name
end_found [] close rest inside closes = rw closes refl
end_found (b ∷ name) close rest inside closes = rw (inside.0, end_found name close rest inside.1 closes) (omega arith)

not_empty : (n : ℕ) → 0 < n → eqb n 0 ≡ false
not_empty n inside = ne_eqb n 0 (λ z. omega arith)

nonzero : (n : ℕ) → eqb n 0 ≡ false → 0 < n
nonzero zero e = absurd cc
nonzero (suc n) e = omega arith

name_found : (include : Include) (mark close : ℕ) (rest : List ℕ) → include.quoted ≡ (mark == quote) → 0 < length include.name → AllByRecursion (λ byte. ends_name byte ≡ false) include.name → ends_name close ≡ true
    → named (mark, behind_mark include.name close rest) ≡ Some include
name_found include mark close rest quoted some inside closes =
    let at = end_found include.name close rest inside closes in
    let within : ltb (length include.name) (length (include.name ++ close ∷ rest)) ≡ true = lt-ltb _ _ (omega (arith, length-append include.name (close ∷ rest))) in
    let found : position ends_name (include.name ++ close ∷ rest) ≡ Some (length include.name) = rw (at, within) refl in
    ap (named_to (mark == quote) (include.name ++ close ∷ rest)) found
    ∙ rw (not_empty (length include.name) some, take_at include.name (close ∷ rest) (length include.name) refl, ← quoted) refl

pub match_found : (line : List ℕ) (include : Include) → Matches line include → include_of line ≡ Some include
match_found line include m =
    let behind_space = m.mark ∷ behind_mark include.name m.close m.rest in
    let behind_word = m.space ++ behind_space in
    let behind_hash = m.gap ++ (m.word ++ behind_word) in
    let first : behind (codes "#") (without_blanks line) ≡ Some behind_hash =
    ap (λ (l : List ℕ). behind (codes "#") (without_blanks l)) m.is ∙ ap (behind (codes "#")) (skip m.indent 35 behind_hash m.indented refl) in
    let second : option_and_then behind_directive (behind (codes "#") (without_blanks line)) ≡ Some behind_word =
    ap (option_and_then behind_directive) first ∙ directive_found m.gap m.word behind_word m.apart m.is_word in
    let third : opened line ≡ Some (m.mark, behind_mark include.name m.close m.rest) =
    ap (option_and_then opened_by) second ∙ mark_found m.space m.mark (behind_mark include.name m.close m.rest) m.spaced m.is_mark in
    ap (option_and_then named) third ∙ name_found include m.mark m.close m.rest m.quoted m.named m.inside m.closes

-- ---- what is found is a match

blanks_in_front : (text : List ℕ) → (front : List ℕ) × AreBlanks front × (text ≡ front ++ without_blanks text)
blanks_in_front [] = ([], tt, refl)
blanks_in_front (b ∷ text) = by (is_blank b) refl (blanks_in_front text)
  where
    by : (t : Bool) → is_blank b ≡ t → (front : List ℕ) × AreBlanks front × (text ≡ front ++ without_blanks text) → (front : List ℕ) × AreBlanks front × (b ∷ text ≡ front ++ cond t (without_blanks text) (b ∷ text))
    by true e r = (b ∷ r.0, (e, r.1), ap (λ (t : List ℕ). b ∷ t) r.2)
    by false e r = ([], tt, refl)

behind_is : (word text rest : List ℕ) → behind word text ≡ Some rest → text ≡ word ++ rest
behind_is word text rest e =
    let g = guard (starts_with nat_eq text word) (drop (length word) text) rest e in
    (starts_is Decides-eqb text word (starts_with nat_eq text word) refl).0 g.0 ∙ ap (λ (r : List ℕ). word ++ r) g.1

either_is : (text rest : List ℕ) → behind_either (behind (codes "include") text) (behind (codes "import") text) ≡ Some rest
    → (word : List ℕ) × ((word ≡ codes "include") ⊎ (word ≡ codes "import")) × (text ≡ word ++ rest)
either_is text rest e = by (behind (codes "include") text) refl e
  where
    by : (found : Option (List ℕ)) → behind (codes "include") text ≡ found → behind_either found (behind (codes "import") text) ≡ Some rest
        → (word : List ℕ) × ((word ≡ codes "include") ⊎ (word ≡ codes "import")) × (text ≡ word ++ rest)
    by (Some r) is e = (codes "include", inl refl, behind_is (codes "include") text rest (is ∙ e))
    by None is e = (codes "import", inr refl, behind_is (codes "import") text rest e)

either_mark : (a b : Bool) → (a || b) ≡ true → (a ≡ true) ⊎ (b ≡ true)
either_mark true b e = inl refl
either_mark false b e = inr e

mark_is : (text : List ℕ) (mark : ℕ) (rest : List ℕ) → mark_in_front text ≡ Some (mark, rest) → (text ≡ mark ∷ rest) × ((mark ≡ quote) ⊎ (mark ≡ angle))
mark_is [] mark rest e = absurd cc
mark_is (b ∷ bytes) mark rest e =
    let g = guard (b == quote || b == angle) (b, bytes) (mark, rest) e in
    let is : b ≡ mark = ap (λ (p : ℕ × List ℕ). p.0) g.1 in
    let behind_is : bytes ≡ rest = ap (λ (p : ℕ × List ℕ). p.1) g.1 in (
      ap (λ (m : ℕ). m ∷ bytes) is ∙ ap (λ (r : List ℕ). mark ∷ r) behind_is,
      elim (either_mark (b == quote) (b == angle) g.0) [
        | inl q ↦ inl (sym is ∙ eqb-true b quote q)
        | inr a ↦ inr (sym is ∙ eqb-true b angle a)
      ],
    )

-- what stands in front of a first byte that passes, and what behind it
name_parts : (text : List ℕ) → position_or_len ends_name text < length text
    → (name : List ℕ) × (close : ℕ) × (rest : List ℕ) × (text ≡ name ++ close ∷ rest) × AllByRecursion (λ byte. ends_name byte ≡ false) name × (ends_name close ≡ true) × (length name ≡ position_or_len ends_name text)
name_parts [] inside = absurd (omega arith)
name_parts (b ∷ text) inside = by (ends_name b) refl inside (λ within. name_parts text within)
  where
    by : (t : Bool) → ends_name b ≡ t → cond (not t) (1 + position_or_len ends_name text) 0 < length (b ∷ text)
        → (position_or_len ends_name text < length text
        → (name : List ℕ) × (close : ℕ) × (rest : List ℕ) × (text ≡ name ++ close ∷ rest) × AllByRecursion (λ byte. ends_name byte ≡ false) name × (ends_name close ≡ true) × (length name ≡ position_or_len ends_name text))
        → (name : List ℕ) × (close : ℕ) × (rest : List ℕ) × (b ∷ text ≡ name ++ close ∷ rest) × AllByRecursion (λ byte. ends_name byte ≡ false) name × (ends_name close ≡ true) × (length name ≡ cond (not t) (1 + position_or_len ends_name text) 0)
    by true e inside later = ([], b, text, refl, tt, e, refl)
    by false e inside later =
        let r = later (omega arith) in
        (b ∷ r.0, r.1, r.2, ap (λ (t : List ℕ). b ∷ t) r.3, (e, r.4), r.5, omega (arith, r.6))

pub name_is : (mark : ℕ) (text : List ℕ) (include : Include) → named (mark, text) ≡ Some include
    → (close : ℕ) × (rest : List ℕ) × (text ≡ behind_mark include.name close rest) × (include.quoted ≡ (mark == quote)) × (0 < length include.name) × AllByRecursion (λ byte. ends_name byte ≡ false) include.name × (ends_name close ≡ true)
name_is mark text include e = by (ltb (position_or_len ends_name text) (length text)) refl e
  where
    by : (t : Bool) → ltb (position_or_len ends_name text) (length text) ≡ t → named_to (mark == quote) text (cond t (Some (position_or_len ends_name text)) None) ≡ Some include
        → (close : ℕ) × (rest : List ℕ) × (text ≡ behind_mark include.name close rest) × (include.quoted ≡ (mark == quote)) × (0 < length include.name) × AllByRecursion (λ byte. ends_name byte ≡ false) include.name × (ends_name close ≡ true)
    by false is e = absurd cc
    by true is e =
        let parts = name_parts text (ltb-true _ _ is) in
        whole (eqb (position_or_len ends_name text) 0) refl e parts.0 parts.1 parts.2 parts.3 parts.4 parts.5 parts.6
      where
        whole : (z : Bool) → eqb (position_or_len ends_name text) 0 ≡ z → cond z None (Some (record { quoted = mark == quote; name = take (position_or_len ends_name text) text })) ≡ Some include
            → (name : List ℕ) (close : ℕ) (rest : List ℕ) → text ≡ name ++ close ∷ rest → AllByRecursion (λ byte. ends_name byte ≡ false) name → ends_name close ≡ true → length name ≡ position_or_len ends_name text
            → (close : ℕ) × (rest : List ℕ) × (text ≡ behind_mark include.name close rest) × (include.quoted ≡ (mark == quote)) × (0 < length include.name) × AllByRecursion (λ byte. ends_name byte ≡ false) include.name × (ends_name close ≡ true)
        whole true z e name close rest cut inside closes len = absurd cc
        whole false z e name close rest cut inside closes len =
            let taken : take (position_or_len ends_name text) text ≡ name = ap (take (position_or_len ends_name text)) cut ∙ take_at name (close ∷ rest) (position_or_len ends_name text) len in
            let made : Include = record { quoted = mark == quote; name = name } in
            let is : made ≡ include = some_is made include (ap (λ (n : List ℕ). Some (record { quoted = mark == quote; name = n })) (sym taken) ∙ e) in
            let some : 0 < length name = nonzero (length name) (rw (← len) at z) in
            subst (λ (i : Include). (close : ℕ) × (rest : List ℕ) × (text ≡ behind_mark i.name close rest) × (i.quoted ≡ (mark == quote)) × (0 < length i.name) × AllByRecursion (λ byte. ends_name byte ≡ false) i.name × (ends_name close ≡ true)) is
            (close, rest, cut, refl, some, inside, closes)

pub found_matches : (line : List ℕ) (include : Include) → include_of line ≡ Some include → Matches line include
found_matches line include e =
    let a = bind named (opened line) include e in
    let b = bind opened_by (option_and_then behind_directive (behind (codes "#") (without_blanks line))) a.0 a.1 in
    let c = bind behind_directive (behind (codes "#") (without_blanks line)) b.0 b.1 in
    let indent = blanks_in_front line in
    let hash = behind_is (codes "#") (without_blanks line) c.0 c.1 in
    let gap = blanks_in_front c.0 in
    let word = either_is (without_blanks c.0) b.0 c.2 in
    let space = blanks_in_front b.0 in
    let mark = mark_is (without_blanks b.0) a.0.0 a.0.1 b.2 in
    let name = name_is a.0.0 a.0.1 include a.2 in
    let at_mark : without_blanks b.0 ≡ a.0.0 ∷ behind_mark include.name name.0 name.1 = mark.0 ∙ ap (λ (t : List ℕ). a.0.0 ∷ t) name.2 in
    let at_space : b.0 ≡ space.0 ++ (a.0.0 ∷ behind_mark include.name name.0 name.1) = space.2 ∙ ap (λ (t : List ℕ). space.0 ++ t) at_mark in
    let at_word : without_blanks c.0 ≡ word.0 ++ (space.0 ++ (a.0.0 ∷ behind_mark include.name name.0 name.1)) = word.2 ∙ ap (λ (t : List ℕ). word.0 ++ t) at_space in
    let at_gap : c.0 ≡ gap.0 ++ (word.0 ++ (space.0 ++ (a.0.0 ∷ behind_mark include.name name.0 name.1))) = gap.2 ∙ ap (λ (t : List ℕ). gap.0 ++ t) at_word in
    record {
      indent = indent.0;
      gap = gap.0;
      word = word.0;
      space = space.0;
      mark = a.0.0;
      close = name.0;
      rest = name.1;
      is = indent.2 ∙ ap (λ (t : List ℕ). indent.0 ++ t) (hash ∙ ap (λ (t : List ℕ). 35 ∷ t) at_gap);
      indented = indent.1;
      apart = gap.1;
      is_word = word.1;
      spaced = space.1;
      is_mark = mark.1;
      quoted = name.3;
      named = name.4;
      inside = name.5;
      closes = name.6;
    }
