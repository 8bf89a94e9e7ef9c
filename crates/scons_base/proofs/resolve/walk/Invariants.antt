use Rattle.std.proofs.Common.{◌≡◌, length, map}
use Rattle.scons_base.specs.Resolve.{walk}
use denote.Shadow.{shadow}
use denote.Text.{Utf8}
use Rattle.scons_base.proofs.resolve.walk.Given as goal

-- what is left leads from here to where the text leads
abbrev pub invariant-parts : goal.invariant-parts
invariant-parts l = (walk (map (λ x. x.now) l.place.items) l.rest ≡ walk (map (λ x. x.now) l.initial.place.items) l.text) × shadow (Utf8 l.rest)

abbrev pub decreases-parts : goal.decreases-parts
decreases-parts l = length l.rest
