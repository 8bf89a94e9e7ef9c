-- The entries that are left, step by step.
use Rattle.std.proofs.Common.{◌≡◌, ◌∙◌, ◌==◌, ◌<◌, ◌≤◌, ℕ, suc, ◌+◌, ◌-◌, Bool, true, false, List, [], ◌∷◌, ◌++◌, Ok, Err, Some, None, refl, sym, ap, length, take, map, append_assoc, arith}
use Rattle.std.specs.Prelude.{Result, Option, MatchOption, reverse, if◌then◌else◌}
use Rattle.std.specs.Option.{option_to_list}
use Rattle.std.proofs.lemmas.List.{reverse-append, map-append, length-append}
use Rattle.env_subst.specs.declared.entries.Frame as code_frame
use Rattle.env_subst.specs.declared.entries.Found.TheVariants as found
use Rattle.env_subst.specs.declared.fault.SubstFault.{SubstFault}
use Rattle.env_subst.specs.declared.fault.SubstFault.TheVariants.{TooMany}
use Rattle.env_subst.specs.declared.library.LibItem.{LibItem}
use Rattle.env_subst.specs.declared.library.LibItem.TheVariants.{Name}
use Rattle.env_subst.specs.declared.locals.Locals.{Locals}
use Rattle.env_subst.specs.declared.saying.Saying.{Saying}
use Rattle.env_subst.specs.Settings.{Setting}
use Rattle.env_subst.specs.Contents.{nothing, content_at, said}
use Rattle.env_subst.specs.Expansions.{Names, is_open, sayings_in, height}
use Rattle.env_subst.specs.Desks.{outer_names}
use Rattle.env_subst.specs.Entries.{Entries, fails, entry, named, variable_entries, first_entry, entries_with, spread, entries_at, with_item, more_items, Paths, behind}
use Rattle.env_subst.specs.Frames.{Frame, frame_of, frames_of, left_of, found_of, Finds}
use Rattle.env_subst.proofs.Doing.{left_again}

pub frame_upon : (locals : Locals) (frames : List code_frame.Frame) (f : code_frame.Frame) → frames_of locals (frames ++ f ∷ []) ≡ frame_of locals f ∷ frames_of locals frames
frame_upon locals frames f = ap reverse (map-append (frame_of locals) frames (f ∷ [])) ∙ reverse-append (map (frame_of locals) frames) (frame_of locals f ∷ [])

pub frame_popped : (locals : Locals) (old new : List code_frame.Frame) (n m : ℕ) (r : Option code_frame.Frame) → old ≡ new ++ option_to_list r → new ≡ take (n - 1) old → MatchOption r ((n ≡ 0) × (m ≡ 0)) (λ _. m + 1 ≡ n)
    → MatchOption r (frames_of locals old ≡ []) (λ f. frames_of locals old ≡ frame_of locals f ∷ frames_of locals new)
frame_popped locals old new n m None e rest c = ap (frames_of locals) (e ∙ ap (λ xs. xs ++ []) (rest ∙ ap (λ k. take (k - 1) old) c.0))
frame_popped locals old new n m (Some f) e rest c = ap (frames_of locals) e ∙ frame_upon locals new f

-- a level of variables that are open
one_level : (w : Setting) (more : ℕ) (names : Names) (name : List ℕ) (n : ℕ) (rest : ℕ → Entries)
    → spread w (suc more) names name n rest ≡ entries_with w (spread w more (names ++ name ∷ [])) (names ++ name ∷ []) name (sayings_in w names name) n rest
unfolding spread
one_level w more names name n rest = refl

no_level : (w : Setting) (k : ℕ) (names : Names) (name : List ℕ) (n : ℕ) (rest : ℕ → Entries) → k ≡ 0 → spread w k names name n rest ≡ fails (TooMany 100001)
unfolding spread
no_level w k names name n rest e = ap (λ j. spread w j names name n rest) e

level : (names : Names) → length names ≤ 100001 → height - length names ≡ suc (height - suc (length names))
unfolding height
level names h = omega arith

over_level : (names : Names) → 100001 < length names → height - length names ≡ 0
unfolding height
over_level names h = omega arith

inner_level : (names : Names) (name : List ℕ) → height - suc (length names) ≡ height - length (names ++ name ∷ [])
inner_level names name =
    let e : suc (length names) ≡ length (names ++ name ∷ []) = omega (arith, length-append names (name ∷ [])) in ap (λ k. height - k) e

pub opens : (w : Setting) (names : Names) (name : List ℕ) (n : ℕ) (rest : ℕ → Entries) → length names ≤ 100001
    → entries_at w names name n rest ≡ entries_with w (entries_at w (names ++ name ∷ [])) (names ++ name ∷ []) name (sayings_in w names name) n rest
opens w names name n rest h =
    ap (λ k. spread w k names name n rest) (level names h)
    ∙ one_level w (height - suc (length names)) names name n rest
    ∙ ap (λ k. entries_with w (spread w k (names ++ name ∷ [])) (names ++ name ∷ []) name (sayings_in w names name) n rest) (inner_level names name)

pub opens_too_deep : (w : Setting) (names : Names) (name : List ℕ) (n : ℕ) (rest : ℕ → Entries) → 100001 < length names → entries_at w names name n rest ≡ fails (TooMany 100001)
opens_too_deep w names name n rest h = no_level w (height - length names) names name n rest (over_level names h)

open_says : (w : Setting) (names : Names) (name : List ℕ) (b : Bool) → b ≡ true → said w.locals (if b then nothing else content_at w name) ≡ []
open_says w names name true e = refl
open_says w names name false e = cc

pub opens_again : (w : Setting) (names : Names) (name : List ℕ) (n : ℕ) (rest : ℕ → Entries) → length names ≤ 100001 → is_open name names ≡ true → rest n ≡ entries_at w names name n rest
opens_again w names name n rest h o =
    sym (opens w names name n rest h
    ∙ ap (λ xs. entries_with w (entries_at w (names ++ name ∷ [])) (names ++ name ∷ []) name xs n rest) (open_says w names name (is_open name names) o))

pub is_opened : (w : Setting) (frames more : List Frame) (names inner : Names) (name copy : List ℕ) (says : List Saying) (n : ℕ) → length names ≤ 100001 → says ≡ sayings_in w names name
    → copy ≡ name → inner ≡ names ++ copy ∷ [] → more ≡ (name, says) ∷ frames → left_of w more inner n ≡ entries_at w names name n (left_of w frames names)
is_opened w frames more names inner name copy says n h s c i m =
    ap (λ fs. left_of w fs inner n) (m ∙ ap (λ xs. (name, xs) ∷ frames) s)
    ∙ ap (λ ns. left_of w ((name, sayings_in w names name) ∷ frames) ns n) (i ∙ ap (λ x. names ++ x ∷ []) c)
    ∙ ap (λ ns. entries_with w (entries_at w (names ++ name ∷ [])) (names ++ name ∷ []) name (sayings_in w names name) n (left_of w frames ns)) (left_again names name)
    ∙ sym (opens w names name n (left_of w frames names) h)

pub named_found : (w : Setting) (names : Names) (t : List ℕ) (n : ℕ) (rest : ℕ → Entries) → Finds w names (named t (rest n)) rest (found_of t, n)
named_found w names t n rest = by (length t == 0)
  where
    by : (b : Bool) → Finds w names (if b then rest n else entry (Name t) (rest n)) rest ((if b then found.Nothing else found.Entry (Name t)), n)
    by true = refl
    by false = refl

-- items that are put one behind another
pub item_put : (items : List LibItem) (x : LibItem) (r : Result (List LibItem) SubstFault) → more_items items (with_item x r) ≡ more_items (items ++ x ∷ []) r
item_put items x (Ok more) = ap (λ l. Ok l) (sym (append_assoc items (x ∷ []) more))
item_put items x (Err fault) = refl

pub more_fails : (items : List LibItem) (r : Result (List LibItem) SubstFault) (fault : SubstFault) → more_items items r ≡ Err fault → r ≡ Err fault
more_fails items (Ok more) fault e = cc
more_fails items (Err f) fault e = e

pub none_before : (r : Result (List LibItem) SubstFault) → more_items [] r ≡ r
none_before (Ok more) = refl
none_before (Err fault) = refl

-- and directories
pub dirs_put : (found dirs : List (List ℕ)) (r : Paths) → behind found (behind dirs r) ≡ behind (found ++ dirs) r
dirs_put found dirs (Ok more) = ap (λ x. Ok x) (sym (append_assoc found dirs more))
dirs_put found dirs (Err fault) = refl

pub behind_fails : (found : List (List ℕ)) (r : Paths) (fault : SubstFault) → behind found r ≡ Err fault → r ≡ Err fault
behind_fails found (Ok more) fault e = cc
behind_fails found (Err f) fault e = e

pub behind_none : (r : Paths) → behind [] r ≡ r
behind_none (Ok dirs) = refl
behind_none (Err fault) = refl

-- the first thing that a frame says
abbrev pub taken_rest : Setting → Names → List ℕ → List Saying → List Frame → ℕ → Entries
taken_rest w names name xs frames n = entries_with w (entries_at w names) names name xs n (left_of w frames (outer_names names))

module _ (w : Setting) (names : Names) (name : List ℕ) (x : Saying) (xs : List Saying) (frames more : List Frame) (n m : ℕ) (pushed : more ≡ (name, xs) ∷ frames) where
  pub nothing_taken : first_entry w (entries_at w names) names name x n (taken_rest w names name xs frames) ≡ taken_rest w names name xs frames m
      → left_of w ((name, x ∷ xs) ∷ frames) names n ≡ left_of w more names m
  nothing_taken h = h ∙ ap (λ fs. left_of w fs names m) (sym pushed)

  pub entry_taken : (e : LibItem) → first_entry w (entries_at w names) names name x n (taken_rest w names name xs frames) ≡ entry e (taken_rest w names name xs frames m)
      → left_of w ((name, x ∷ xs) ∷ frames) names n ≡ entry e (left_of w more names m)
  entry_taken e h = h ∙ ap (λ fs. entry e (left_of w fs names m)) (sym pushed)

  pub variable_taken : (v : List ℕ) → first_entry w (entries_at w names) names name x n (taken_rest w names name xs frames) ≡ variable_entries (entries_at w names) v m (taken_rest w names name xs frames)
      → left_of w ((name, x ∷ xs) ∷ frames) names n ≡ variable_entries (entries_at w names) v m (left_of w more names)
  variable_taken v h = h ∙ ap (λ fs. variable_entries (entries_at w names) v m (left_of w fs names)) (sym pushed)
