use Rattle.std.proofs.Common.{◌≡◌, ◌∙◌, sym, ap, refl, None, Some}
use Rattle.std.specs.Prelude.{Option}
use Rattle.std.specs.Option.{option_map}
use Rattle.env_text.specs.Alone.{name_alone}
use Rattle.env_text.specs.Readings.{reading_of}
use Rattle.env_subst.specs.Settings.{setting_of}
use Rattle.env_subst.specs.Expansions.{call_of}
use Rattle.env_subst.specs.Desks.{desk_of}
use Rattle.env_subst.proofs.CallSteps.{further_call}
use Rattle.env_subst.proofs.apart.put_apart.Goals as goal

found : {X Y : Type 0} (f : X → Y) (o : Option X) (y : Y) → Some y ≡ option_map f o → (x : X) × ((o ≡ Some x) × (y ≡ f x))
found f None y e = cc
found f (Some x) y e = (x, (refl, cc))

pub returns-in-Some : goal.returns-in-Some
returns-in-Some c =
    let l = c.args.setting.now.locals.now in
    let k = found (call_of c.args.call) (name_alone (reading_of c.args.text)) c.in-Some.further
    (sym c.in-Some.is ∙ (c.in_ok-further.ensures {u = tt}) ∙ ap (λ t. option_map (call_of c.args.call) (name_alone (reading_of t))) c.as_str.ensures) in
    further_call (setting_of c.args.setting.now) (desk_of l c.args.desk.now) (desk_of l c.read_apart.new.desk) c.args.call c.args.text c.read_apart.result
    c.in-Some.further k.0 (name_alone (reading_of c.args.text)) k.1.0 k.1.1 c.read_apart.ensures
