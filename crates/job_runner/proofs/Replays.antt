-- What one change more makes of a replay.
use Rattle.std.proofs.Common.{◌≡◌, ◌≢◌, ℕ, zero, suc, ◌+◌, ◌<◌, Bool, true, false, cond, List, [], ◌∷◌, ◌++◌, map, length, get_or, take, drop, Option, Some, None, refl, sym, ap, subst, ◌∙◌, append_assoc, append-nil, eq-eqb, ne_eqb, arith}
use Rattle.std.specs.Bool.{nat_eq}
use Rattle.std.specs.List.{remove}
use Rattle.std.specs.Option.{option_map}
use Rattle.std.specs.Ordering.{int_eq}
use Rattle.std.specs.Cmp.{signed_Decides}
use Rattle.world_api.specs.declared.job.Outcome.{Outcome}
use Rattle.world_api.specs.declared.job.Outcome.TheVariants.{Done, Failed, Broken, NoMemory}
use Rattle.job_runner.specs.Seats.{Seats, End, outcome_eq}
use Rattle.job_runner.specs.Replay.{behind, without, behind_end, after, after_some, replay_on, replay_of, pick_of, picked_of}
use Rattle.job_runner.specs.Slips.{seats_of, end_of}
use Rattle.job_runner.specs.declared.change.Change.{Change}
use Rattle.job_runner.specs.declared.change.Change.TheVariants.{HandedIn, Taken, Ended, Picked}
use Rattle.job_runner.specs.declared.entry.Waiting as waiting
use Rattle.job_runner.specs.declared.entry.Numbered as taken
use Rattle.job_runner.specs.declared.entry.Ended as ended

replay_on_snoc : (s : Option Seats) (cs : List Change) (c : Change) → replay_on s (cs ++ c ∷ []) ≡ after_some c (replay_on s cs)
replay_on_snoc s [] c = refl
replay_on_snoc s (d ∷ cs) c = replay_on_snoc (after_some d s) cs c

pub replay_next : (cs : List Change) (c : Change) (s t : Seats) → replay_of cs ≡ Some s → after c s ≡ Some t → replay_of (cs ++ c ∷ []) ≡ Some t
unfolding replay_of
replay_next cs c s t e f = replay_on_snoc (Some _) cs c ∙ (ap (after_some c) e ∙ f)

pub replay_none_yet : replay_of [] ≡ Some (seats_of 0 [] [] [] [])
unfolding replay_of
replay_none_yet = refl

pub picked_next : (cs : List Change) (c : Change) → picked_of (cs ++ c ∷ []) ≡ picked_of cs ++ pick_of c
picked_next [] c = append-nil (pick_of c)
picked_next (d ∷ cs) c = ap (λ (xs : List End). pick_of d ++ xs) (picked_next cs c) ∙ sym (append_assoc (pick_of d) (picked_of cs) (pick_of c))

number_snoc : (w : List waiting.Waiting) (entry : waiting.Waiting) (n : ℕ) → entry.number ≡ n → map (λ (x : waiting.Waiting). x.number) (w ++ entry ∷ []) ≡ map (λ (x : waiting.Waiting). x.number) w ++ n ∷ []
number_snoc [] entry n is = ap (λ k. k ∷ []) is
number_snoc (x ∷ w) entry n is = ap (λ (ks : List ℕ). x.number ∷ ks) (number_snoc w entry n is)

taken_snoc : (w : List taken.Numbered) (entry : taken.Numbered) (n : ℕ) → entry.number ≡ n → map (λ (x : taken.Numbered). x.number) (w ++ entry ∷ []) ≡ map (λ (x : taken.Numbered). x.number) w ++ n ∷ []
taken_snoc [] entry n is = ap (λ k. k ∷ []) is
taken_snoc (x ∷ w) entry n is = ap (λ (ks : List ℕ). x.number ∷ ks) (taken_snoc w entry n is)

end_snoc : (w : List ended.Ended) (entry : ended.Ended) (n : ℕ) (o : Outcome) → entry.number ≡ n → entry.ending.outcome ≡ o → map end_of (w ++ entry ∷ []) ≡ map end_of w ++ (n, o) ∷ []
end_snoc [] entry n o is as_ended = rw (is, as_ended) refl
end_snoc (x ∷ w) entry n o is as_ended = ap (λ (ks : List End). end_of x ∷ ks) (end_snoc w entry n o is as_ended)

unpicked : (cs : List Change) (c : Change) → pick_of c ≡ [] → picked_of (cs ++ c ∷ []) ≡ picked_of cs
unpicked cs c none = picked_next cs c ∙ (ap (λ (xs : List End). picked_of cs ++ xs) none ∙ append-nil (picked_of cs))

-- a slip was handed in
pub handed_in_next : (n : ℕ) (w : List waiting.Waiting) (t : List taken.Numbered) (e : List ended.Ended) (cs : List Change) (entry : waiting.Waiting) → replay_of cs ≡ Some (seats_of n w t e cs)
    → entry.number ≡ n → replay_of (cs ++ HandedIn n ∷ []) ≡ Some (seats_of (n + 1) (w ++ entry ∷ []) t e (cs ++ HandedIn n ∷ []))
handed_in_next n w t e cs entry r is =
    replay_next cs (HandedIn n) (seats_of n w t e cs) (seats_of (n + 1) (w ++ entry ∷ []) t e (cs ++ HandedIn n ∷ [])) r
    (rw (number_snoc w entry n is, unpicked cs (HandedIn n) refl, eq-eqb n n refl) refl)

-- the oldest slip was taken
pub taken_next : (n h : ℕ) (w w' : List waiting.Waiting) (t : List taken.Numbered) (e : List ended.Ended) (cs : List Change) (oldest : waiting.Waiting) (entry : taken.Numbered)
    → replay_of cs ≡ Some (seats_of h w t e cs) → w ≡ oldest ∷ w' → oldest.number ≡ n → entry.number ≡ n
    → replay_of (cs ++ Taken n ∷ []) ≡ Some (seats_of h w' (t ++ entry ∷ []) e (cs ++ Taken n ∷ []))
taken_next n h w w' t e cs oldest entry r front is is' =
    replay_next cs (Taken n) (seats_of h w t e cs) (seats_of h w' (t ++ entry ∷ []) e (cs ++ Taken n ∷ [])) r
    (rw (taken_snoc t entry n is', unpicked cs (Taken n) refl, front, is, eq-eqb n n refl) refl)

outcome_same : (o : Outcome) → outcome_eq o o ≡ true
outcome_same Done = refl
outcome_same (Failed code) = (signed_Decides code code).1 refl
outcome_same Broken = refl
outcome_same NoMemory = refl

-- the oldest ending was picked
pub picked_end_next : (n h : ℕ) (o : Outcome) (w : List waiting.Waiting) (t : List taken.Numbered) (e e' : List ended.Ended) (cs : List Change) (oldest : ended.Ended)
    → replay_of cs ≡ Some (seats_of h w t e cs) → e ≡ oldest ∷ e' → oldest.number ≡ n → oldest.ending.outcome ≡ o
    → replay_of (cs ++ Picked n o ∷ []) ≡ Some (seats_of h w t e' (cs ++ Picked n o ∷ []))
picked_end_next n h o w t e e' cs oldest r front is as_ended =
    replay_next cs (Picked n o) (seats_of h w t e cs) (seats_of h w t e' (cs ++ Picked n o ∷ [])) r
    (rw (picked_next cs (Picked n o), front, is, as_ended, eq-eqb n n refl, outcome_same o) refl)

-- a taken slip, found by its number, is taken out
without_at : (n : ℕ) (t : List taken.Numbered) (place : ℕ) (d : taken.Numbered) → place < length t → (get_or t place d).number ≡ n → ((k : ℕ) → k < place → (get_or t k d).number ≢ n)
    → without n (map (λ (x : taken.Numbered). x.number) t) ≡ Some (map (λ (x : taken.Numbered). x.number) (remove t place))
without_at n [] place d inside is none = absurd (omega arith)
without_at n (x ∷ t) zero d inside is none = rw (eq-eqb x.number n is) refl
without_at n (x ∷ t) (suc k) d inside is none =
    rw (ne_eqb x.number n (none 0 (omega arith)), without_at n t k d (omega arith) is (λ j lt. none (suc j) (omega arith))) refl

-- an ending took the place of its slip
pub ended_next : (n h : ℕ) (o : Outcome) (w : List waiting.Waiting) (t : List taken.Numbered) (e : List ended.Ended) (cs : List Change) (place : ℕ) (d : taken.Numbered) (entry : ended.Ended)
    → replay_of cs ≡ Some (seats_of h w t e cs) → place < length t → (get_or t place d).number ≡ n → ((k : ℕ) → k < place → (get_or t k d).number ≢ n)
    → entry.number ≡ n → entry.ending.outcome ≡ o
    → replay_of (cs ++ Ended n o ∷ []) ≡ Some (seats_of h w (remove t place) (e ++ entry ∷ []) (cs ++ Ended n o ∷ []))
ended_next n h o w t e cs place d entry r inside at none is as_ended =
    replay_next cs (Ended n o) (seats_of h w t e cs) (seats_of h w (remove t place) (e ++ entry ∷ []) (cs ++ Ended n o ∷ [])) r
    (rw (end_snoc e entry n o is as_ended, unpicked cs (Ended n o) refl, without_at n t place d inside at none) refl)
