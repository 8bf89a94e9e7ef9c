-- One call more: the moments are those before it, and the present one.
use Rattle.std.proofs.Common.{◌≡◌, ◌∙◌, ◌⊎◌, ◌≤◌, ◌-◌, ◌+◌, inl, inr, ℕ, suc, List, [], ◌∷◌, ◌++◌, max, length, reverse, subst, sym, ap, refl, arith, length-append, Result, Ok, Err, OnErr}
use Rattle.std.proofs.lemmas.List.{reverse-append}
use Rattle.world_api.specs.Around.{Around}
use Rattle.world_api.specs.Banks.{Banks}
use Rattle.world_api.specs.Calls.{Asks}
use Rattle.world_api.specs.Meaning.{IsImage, Recalls, Throughout, AtEither, Meanwhile}
use Rattle.world_mem.specs.Laws.{only_now_of}
use Rattle.world_mem.specs.Means.{machine_of, world_meaning}
use Rattle.world_mem.specs.Past.{Machine, IsHere, IsMoment, back_by}
use Rattle.world_mem.specs.declared.past.Turn.{Turn}
use Rattle.world_mem.specs.declared.world.MemWorld.{MemWorld}
use Rattle.world_mem.proofs.Membership.{below_or_not}

-- nothing changed that is told
pub record Idle (old new : MemWorld) : Type 0 where
  pub turns : new.turns.items ≡ old.turns.items
  pub horizon : new.horizon ≡ old.horizon
  pub machine : machine_of new ≡ machine_of old

-- one turn more
pub record Turns (turn : Turn) (old new : MemWorld) : Type 0 where
  pub turns : new.turns.items ≡ old.turns.items ++ turn ∷ []
  pub horizon : new.horizon ≡ old.horizon
  pub since : old.horizon ≤ length old.turns.items
  pub machine : back_by turn (machine_of new) ≡ machine_of old

abbrev LeftNow : MemWorld → ℕ → Around → Banks → Type 0
LeftNow w time around banks = world_meaning.left_since w time around banks

-- nothing but what was before, or is now
abbrev pub NothingElse : MemWorld → MemWorld → Type 0
NothingElse old new = (time : ℕ) (around : Around) (banks : Banks) → LeftNow new time around banks → LeftNow old time around banks ⊎ IsHere (machine_of new) around banks

here_first : (turns : List Turn) (m : Machine) (n : ℕ) (a : Around) (b : Banks) → n ≡ 0 → IsMoment turns m n a b → IsHere m a b
here_first turns m n a b is h = subst (λ k. IsMoment turns m k a b) is h

idle_same : (old new : MemWorld) → Idle old new → (time : ℕ) (a : Around) (b : Banks) → LeftNow new time a b → LeftNow old time a b
idle_same old new idle time a b left =
    subst (λ (m : Machine). IsMoment (reverse old.turns.items) m (length old.turns.items - max time old.horizon) a b) idle.machine
    (subst (λ (h : ℕ). IsMoment (reverse old.turns.items) (machine_of new) (length old.turns.items - max time h) a b) idle.horizon
    (subst (λ (t : List Turn). IsMoment (reverse t) (machine_of new) (length t - max time new.horizon) a b) idle.turns left))

idle_back : (old new : MemWorld) → Idle old new → (time : ℕ) (a : Around) (b : Banks) → LeftNow old time a b → LeftNow new time a b
idle_back old new idle time a b left =
    subst (λ (t : List Turn). IsMoment (reverse t) (machine_of new) (length t - max time new.horizon) a b) (sym idle.turns)
    (subst (λ (h : ℕ). IsMoment (reverse old.turns.items) (machine_of new) (length old.turns.items - max time h) a b) (sym idle.horizon)
    (subst (λ (m : Machine). IsMoment (reverse old.turns.items) m (length old.turns.items - max time old.horizon) a b) (sym idle.machine) left))

module _ (turn : Turn) (old new : MemWorld) (turned : Turns turn old new) where
  reversed : reverse new.turns.items ≡ turn ∷ reverse old.turns.items
  reversed = ap reverse turned.turns ∙ reverse-append old.turns.items (turn ∷ [])

  count : length new.turns.items ≡ length old.turns.items + 1
  count = ap length turned.turns ∙ length-append old.turns.items (turn ∷ [])

  at_steps : (time n : ℕ) (a : Around) (b : Banks) → length new.turns.items - max time new.horizon ≡ n → LeftNow new time a b → IsMoment (turn ∷ reverse old.turns.items) (machine_of new) n a b
  at_steps time n a b is left = subst (λ (t : List Turn). IsMoment t (machine_of new) n a b) reversed (subst (λ (k : ℕ). IsMoment (reverse new.turns.items) (machine_of new) k a b) is left)

  from_steps : (time n : ℕ) (a : Around) (b : Banks) → length new.turns.items - max time new.horizon ≡ n → IsMoment (turn ∷ reverse old.turns.items) (machine_of new) n a b → LeftNow new time a b
  from_steps time n a b is h = subst (λ (k : ℕ). IsMoment (reverse new.turns.items) (machine_of new) k a b) (sym is) (subst (λ (t : List Turn). IsMoment t (machine_of new) n a b) (sym reversed) h)

  steps : (time : ℕ) → time ≤ length old.turns.items → length new.turns.items - max time new.horizon ≡ suc (length old.turns.items - max time old.horizon)
  steps time early = let h = turned.horizon in let s = turned.since in let c = count in omega (arith, h, s, c, early)

  pub turn_keeps : (time : ℕ) (a : Around) (b : Banks) → time ≤ length old.turns.items → LeftNow old time a b → LeftNow new time a b
  turn_keeps time a b early left =
      from_steps time (suc (length old.turns.items - max time old.horizon)) a b (steps time early)
      (inr (subst (λ (m : Machine). IsMoment (reverse old.turns.items) m (length old.turns.items - max time old.horizon) a b) (sym turned.machine) left))

  pub turn_else : NothingElse old new
  turn_else time a b left = elim (below_or_not (length old.turns.items) time) [
    | inl late ↦
        let h = turned.horizon in let c = count in
        let none : length new.turns.items - max time new.horizon ≡ 0 = omega (arith, h, c, late) in
        inr (at_steps time 0 a b none left)
    | inr early ↦ elim (at_steps time (suc (length old.turns.items - max time old.horizon)) a b (steps time early) left) [
      | inl now ↦ inr now
      | inr was ↦ inl (subst (λ (m : Machine). IsMoment (reverse old.turns.items) m (length old.turns.items - max time old.horizon) a b) turned.machine was)
    ]
  ]

pub idle_else : (old new : MemWorld) → Idle old new → NothingElse old new
idle_else old new idle time a b left = inl (idle_same old new idle time a b left)

pub idle_recalls : (old new : MemWorld) → Idle old new → Recalls world_meaning old new
idle_recalls old new idle = record {
  later = λ told. let e = ap length idle.turns in omega (arith, e);
  keeps = λ told time a b at left. idle_back old new idle time a b left;
}

pub turn_recalls : (turn : Turn) (old new : MemWorld) → Turns turn old new → Recalls world_meaning old new
turn_recalls turn old new turned = record {
  later = λ told. let e = count turn old new turned in omega (arith, e);
  keeps = λ told time a b at left. turn_keeps turn old new turned time a b at left;
}

moved : (P : Around → Banks → Type 0) (a b : Around) (banks : Banks) → a ≡ b → P b banks → P a banks
moved P a b banks is p = subst (λ x. P x banks) (sym is) p

-- what a call left has P where the state before it and the one after it have it
pub passes : (old new : MemWorld) (P : Around → Banks → Type 0) → NothingElse old new
    → ((banks : Banks) → IsImage world_meaning old banks → P (world_meaning.around old) banks)
    → ((banks : Banks) → IsImage world_meaning new banks → P (world_meaning.around new) banks) → Throughout world_meaning old new P
passes old new P else was is = record {
  told = λ told. told;
  each = λ told a banks left. elim (else (world_meaning.clock old) a banks left) [
    | inl left_before ↦ let now = only_now_of old a banks left_before in moved P a (world_meaning.around old) banks now.0 (was banks now.1)
    | inr now ↦ moved P a (world_meaning.around new) banks now.0 (is banks now.1)
  ];
  before = λ told time a banks left. elim (else time a banks left) [
    | inl left_before ↦ inl left_before
    | inr now ↦ inr (moved P a (world_meaning.around new) banks now.0 (is banks now.1))
  ];
  now = λ told banks image. is banks image;
}

pub disk_time : (old new : MemWorld) → NothingElse old new → world_meaning.around new ≡ world_meaning.around old → Throughout world_meaning old new (AtEither world_meaning old new)
disk_time old new else around = passes old new (AtEither world_meaning old new) else
    (λ banks image. (sym around, inl image)) (λ banks image. (refl, inr image))

asks_same : (a : Around) → Asks a a
asks_same a = record {
  files = λ path off. refl;
  stamps = λ path off. refl;
  dirs = λ dir. refl;
  running = refl;
  log = refl;
  met = refl;
  law = refl;
  top = refl;
}

pub asks : (old new : Around) → new ≡ old → Asks old new
asks old new is = subst (Asks old) (sym is) (asks_same old)

-- a call that failed and changed nothing
pub refused : {T E : Type 0} (result : Result T E) (old new : Around) → new ≡ old → OnErr result (Asks old new)
refused (Ok x) old new is = tt
refused (Err e) old new is = asks old new is

pub tree_time : (old new : MemWorld) → NothingElse old new → Throughout world_meaning old new (Meanwhile world_meaning old new)
tree_time old new else = passes old new (Meanwhile world_meaning old new) else
    (λ banks image. inl (asks_same (world_meaning.around old), image)) (λ banks image. inr (refl, image))

pub idle_disk : (old new : MemWorld) → Idle old new → Throughout world_meaning old new (AtEither world_meaning old new)
idle_disk old new idle = disk_time old new (idle_else old new idle) (ap (λ (m : Machine). m.course.around) idle.machine)

pub turn_disk : (turn : Turn) (old new : MemWorld) → Turns turn old new → world_meaning.around new ≡ world_meaning.around old → Throughout world_meaning old new (AtEither world_meaning old new)
turn_disk turn old new turned around = disk_time old new (turn_else turn old new turned) around

pub idle_tree : (old new : MemWorld) → Idle old new → Throughout world_meaning old new (Meanwhile world_meaning old new)
idle_tree old new idle = tree_time old new (idle_else old new idle)

pub turn_tree : (turn : Turn) (old new : MemWorld) → Turns turn old new → Throughout world_meaning old new (Meanwhile world_meaning old new)
turn_tree turn old new turned = tree_time old new (turn_else turn old new turned)
