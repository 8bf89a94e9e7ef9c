-- Calls put together: what held at every moment of each of them held at every moment of all.
use Rattle.std.proofs.Common.{◌≡◌, inl, inr, subst, sym, ◌∙◌, arith}
use Rattle.world_api.specs.Around.{Around}
use Rattle.world_api.specs.Banks.{Banks}
use Rattle.world_api.specs.Calls.{Asks}
use Rattle.world_api.specs.Meaning.{Meaning, IsImage, Told, Recalls, Throughout, Surely, AtEither, Meanwhile}

-- no moment since now but the present one
abbrev pub IsNow : {W : Type 0} → Meaning W → W → Type 0
IsNow m w = m.tells w → (around : Around) (banks : Banks) → m.left_since w (m.clock w) around banks → (around ≡ m.around w) × IsImage m w banks

along : (P : Around → Banks → Type 0) (a b : Around) (banks : Banks) → a ≡ b → P b banks → P a banks
along P a b banks is p = subst (λ x. P x banks) (sym is) p

-- no call yet
pub begins : {W : Type 0} (m : Meaning W) (w : W) (P : Around → Banks → Type 0) → IsNow m w
    → (m.tells w → (banks : Banks) → IsImage m w banks → P (m.around w) banks) → Throughout m w w P
begins m w P only here = record {
  told = λ told. told;
  each = λ told a banks left. let now = only told a banks left in along P _ _ banks now.0 (here told banks now.1);
  before = λ told t a banks left. inl left;
  now = here;
}

-- one run of calls after another
pub joins : {W : Type 0} (m : Meaning W) (old mid new : W) (P Q : Around → Banks → Type 0) → Throughout m old mid P
    → Throughout m mid new Q → (m.tells new → (a : Around) (banks : Banks) → Q a banks → P a banks) → Throughout m old new P
joins m old mid new P Q first second so = record {
  told = λ told. first.told (second.told told);
  each = λ told a banks left. elim (second.before told (m.clock old) a banks left) [
    | inl was ↦ first.each (second.told told) a banks was
    | inr q ↦ so told a banks q
  ];
  before = λ told t a banks left. elim (second.before told t a banks left) [
    | inl was ↦ first.before (second.told told) t a banks was
    | inr q ↦ inr (so told a banks q)
  ];
  now = λ told banks image. so told (m.around new) banks (second.now told banks image);
}

pub chains : {W : Type 0} (m : Meaning W) (old mid new : W) (P : Around → Banks → Type 0) → Throughout m old mid P
    → Throughout m mid new P → Throughout m old new P
chains m old mid new P first second = joins m old mid new P P first second (λ told a banks p. p)

pub weakens : {W : Type 0} (m : Meaning W) (old new : W) (P Q : Around → Banks → Type 0) → Throughout m old new P
    → (m.tells new → (a : Around) (banks : Banks) → P a banks → Q a banks) → Throughout m old new Q
weakens m old new P Q run so = record {
  told = run.told;
  each = λ told a banks left. so told a banks (run.each told a banks left);
  before = λ told t a banks left. elim (run.before told t a banks left) [ inl was ↦ inl was | inr p ↦ inr (so told a banks p) ];
  now = λ told banks image. so told (m.around new) banks (run.now told banks image);
}

-- a call of a disk: P holds of the banks as before it, and as after it
pub disk_call : {W : Type 0} (m : Meaning W) (old new : W) (P : Around → Banks → Type 0)
    → Throughout m old new (AtEither m old new)
    → (m.tells new → (banks : Banks) → IsImage m old banks → P (m.around new) banks)
    → (m.tells new → (banks : Banks) → IsImage m new banks → P (m.around new) banks) → Throughout m old new P
disk_call m old new P time was is = weakens m old new (AtEither m old new) P time (λ told a banks at. elim at.1 [
  | inl image ↦ along P _ _ banks at.0 (was told banks image)
  | inr image ↦ along P _ _ banks at.0 (is told banks image)
])

-- a call of a world: P holds whatever running jobs write meanwhile, and after it
pub world_call : {W : Type 0} (m : Meaning W) (old new : W) (P : Around → Banks → Type 0)
    → Throughout m old new (Meanwhile m old new)
    → (m.tells new → (a : Around) (banks : Banks) → Asks (m.around old) a → IsImage m old banks → P a banks)
    → (m.tells new → (banks : Banks) → IsImage m new banks → P (m.around new) banks) → Throughout m old new P
world_call m old new P time was is = weakens m old new (Meanwhile m old new) P time (λ told a banks at. elim at [
  | inl asked ↦ was told a banks asked.0 asked.1
  | inr here ↦ along P _ _ banks here.0 (is told banks here.1)
])

-- the same where P rests on being sure
pub sure_begins : {W : Type 0} (m : Meaning W) (w : W) (P : Around → Banks → Type 0) → IsNow m w
    → (m.tells w → m.sure w → (banks : Banks) → IsImage m w banks → P (m.around w) banks) → Surely m w w P
unfolding Surely
sure_begins m w P only here =
    begins m w (λ a banks. m.sure w → P a banks) only (λ told banks image sure. here told sure banks image)

pub sure_chains : {W : Type 0} (m : Meaning W) (old mid new : W) (P : Around → Banks → Type 0) → Told m mid new
    → Surely m old mid P → Surely m mid new P → Surely m old new P
unfolding Surely
sure_chains m old mid new P told first second = record {
  told = λ tells. first.told (second.told tells);
  each = λ tells a banks left. elim (second.before tells (m.clock old) a banks left) [
    | inl was ↦ (λ sure. first.each (second.told tells) a banks was (told.sure tells sure))
    | inr p ↦ p
  ];
  before = λ tells t a banks left. elim (second.before tells t a banks left) [
    | inl was ↦ elim (first.before (second.told tells) t a banks was) [
      | inl at ↦ inl at
      | inr p ↦ inr (λ sure. p (told.sure tells sure))
    ]
    | inr p ↦ inr p
  ];
  now = second.now;
}

pub surely : {W : Type 0} (m : Meaning W) (old new : W) (P : Around → Banks → Type 0)
    → Throughout m old new (λ a banks. m.sure new → P a banks) → Surely m old new P
unfolding Surely
surely m old new P run = run

pub throughout : {W : Type 0} (m : Meaning W) (old new : W) (P : Around → Banks → Type 0)
    → Surely m old new P → Throughout m old new (λ a banks. m.sure new → P a banks)
unfolding Surely
throughout m old new P run = run

pub tells_on : {W : Type 0} (m : Meaning W) (old mid new : W) → Told m old mid → Told m mid new → Told m old new
tells_on m old mid new first second = record {
  told = λ tells. first.told (second.told tells);
  sure = λ tells sure. first.sure (second.told tells) (second.sure tells sure);
  closed = second.closed ∙ first.closed;
}

pub recalls_on : {W : Type 0} (m : Meaning W) (old mid new : W) → Told m mid new → Recalls m old mid → Recalls m mid new
    → Recalls m old new
recalls_on m old mid new told first second = record {
  later = λ tells. let a = first.later (told.told tells) in let b = second.later tells in omega arith;
  keeps = λ tells t a banks at left. second.keeps tells t a banks (let a = first.later (told.told tells) in omega arith)
      (first.keeps (told.told tells) t a banks at left);
}
