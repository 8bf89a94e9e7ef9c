-- What an end tells of the outside, from what a stop tells, and what is printed.
use Rattle.std.specs.Prelude.{◌≡◌, ◌≤◌, ℕ, List, [], ◌++◌, Option, Some, None, Result, Ok, Err, OnOk, OnErr}
use Rattle.std.proofs.Common.{arith, refl, sym, ap, subst, ◌∙◌, append_assoc, append-nil}
use Rattle.scons_base.specs.Rising.{Rose}
use Rattle.world_api.specs.Counts.{Counts}
use Rattle.world_api.specs.declared.refusal.Fault.{Fault}
use Rattle.world_api.specs.Printed.{SinkMeaning, taken}
use Rattle.scons_host.specs.declared.end.HostEnd.{HostEnd}
use Rattle.scons_host.specs.declared.end.HostEnd.TheVariants as end
use Rattle.scons_host.specs.declared.stop.Stop.{Stop}
use Rattle.scons_host.specs.declared.stop.Stop.TheVariants as stop
use Rattle.scons_host.specs.Causes.{Outside, at_counts, HasStopCause, HasLookCause, HasEndCause, HasCause, IsOwn, IsEndOf, KeepsEnd, HasKeptCause}
use Rattle.scons_host.specs.Prints.{Prints}

-- the same counts
pub counts_same : (a b : Counts) (x y : ℕ) → b ≡ a → y ≡ x → at_counts b y ≡ at_counts a x
counts_same a b x y counts out = ap (λ c. at_counts c y) counts ∙ ap (λ o. at_counts a o) out

-- with an end that is neither of the file tree nor of a sink nothing need be at fault
own_caused : (a : Outside) (e : HostEnd) → IsOwn e → HasEndCause a a e
own_caused a (end.Tree path) own = absurd own
own_caused a end.Out own = absurd own
own_caused a (end.Reading path line kind) own = refl
own_caused a (end.TooLarge path size) own = refl
own_caused a (end.TooMany what count) own = refl
own_caused a end.Memory own = record { counts = record { disk = refl; tree = omega arith; start = refl; action = refl }; out = omega arith }

pub own_at : (a b : Outside) (e : HostEnd) → b ≡ a → IsOwn e → HasEndCause a b e
own_at a b e same own = subst (λ x. HasEndCause a x e) (sym same) (own_caused a e own)

own_of : (a b : Counts) (x : ℕ) (e : HostEnd) → b ≡ a → IsOwn e → HasEndCause (at_counts a x) (at_counts b x) e
own_of a b x e same own = subst (λ c. HasEndCause (at_counts a x) (at_counts c x) e) (sym same) (own_caused (at_counts a x) e own)

-- the end that a stop gives has the stop's cause
pub end_caused : (a b : Counts) (x : ℕ) (s : Stop) (e : HostEnd) → IsEndOf s e → HasStopCause a b s → HasEndCause (at_counts a x) (at_counts b x) e
end_caused a b x (stop.Tree path) e is cause = subst (λ (f : HostEnd). HasEndCause (at_counts a x) (at_counts b x) f) (sym is) (record { tree = cause; out = refl })
end_caused a b x stop.Out e is cause = absurd cause
end_caused a b x (stop.Here kind) e is cause = own_of a b x e cause is
end_caused a b x (stop.There path line kind) e is cause = own_of a b x e cause is
end_caused a b x (stop.TooLarge path size) e is cause = own_of a b x e cause is
end_caused a b x (stop.TooMany what count) e is cause = own_of a b x e cause is
end_caused a b x stop.Memory e is cause = subst (λ (f : HostEnd). HasEndCause (at_counts a x) (at_counts b x) f) (sym is) (record { counts = cause; out = omega arith })

-- what is kept of a stop has its cause
pub kept_caused : (a b : Counts) (x : ℕ) (s : Stop) (k : Option HostEnd) → KeepsEnd s k → HasStopCause a b s → HasKeptCause (at_counts a x) (at_counts b x) k
kept_caused a b x s None keeps cause = keeps
kept_caused a b x s (Some e) keeps cause = end_caused a b x s e keeps cause

-- and so has what is kept of a refused print
pub unprinted_caused : (a : Counts) (x y : ℕ) (k : Option HostEnd) → KeepsEnd stop.Out k → Rose x y → HasKeptCause (at_counts a x) (at_counts a y) k
unprinted_caused a x y None keeps rose = keeps
unprinted_caused a x y (Some e) keeps rose = subst (λ (f : HostEnd). HasEndCause (at_counts a x) (at_counts a y) f) (sym keeps) (record { counts = refl; out = rose })

-- nothing was at fault before
pub look_back : {X : Type 0} (a b c : Counts) (r : Result X Stop) → b ≡ a → HasLookCause b c r → HasLookCause a c r
look_back a b c r same cause = subst (λ x. HasLookCause x c r) same cause

pub cause_back : {X : Type 0} (a b c : Outside) (r : Result X HostEnd) → b ≡ a → HasCause b c r → HasCause a c r
cause_back a b c r same cause = subst (λ x. HasCause x c r) same cause

pub kept_back : (a b c : Outside) (k : Option HostEnd) → b ≡ a → HasKeptCause b c k → HasKeptCause a c k
kept_back a b c k same cause = subst (λ x. HasKeptCause x c k) same cause

pub rose_back : (a b c : ℕ) → a ≤ b → Rose b c → Rose a c
rose_back a b c h r = let up = r.more in let on = r.later in record { later = omega arith; more = omega arith }

pub prints_same : {S : Type 0} (p : SinkMeaning S) (s : S) → Prints p s s
prints_same p s = record { told = λ t. t; text = λ t. ([], sym (append-nil (p.text s))); faults = omega arith }

-- a write, taken or refused
pub prints_write : {S : Type 0} (p : SinkMeaning S) (a b : S) (bytes : List ℕ) (r : Result ℕ Fault) → (p.tells b → p.tells a) → (p.tells b → p.text b ≡ p.text a ++ taken r bytes) → OnOk r (p.faults b ≡ p.faults a) → OnErr r (Rose (p.faults a) (p.faults b)) → Prints p a b
prints_write p a b bytes (Ok n) told printed kept rose = record { told = told; text = λ t. (taken {E = Fault} (Ok n) bytes, printed t); faults = omega (arith, kept) }
prints_write p a b bytes (Err e) told printed kept rose = let up = rose.later in record { told = told; text = λ t. (taken {E = Fault} (Err e) bytes, printed t); faults = up }

pub prints_joined : {S : Type 0} (p : SinkMeaning S) (a b c : S) → Prints p a b → Prints p b c → Prints p a c
prints_joined p a b c f g = record {
  told = λ t. f.told (g.told t);
  text = λ t. let first = f.text (g.told t) in let second = g.text t in
      (first.0 ++ second.0, second.1 ∙ ap (λ s. s ++ second.0) first.1 ∙ append_assoc (p.text a) first.0 second.0);
  faults = let x = f.faults in let y = g.faults in omega arith;
}
