use Rattle.std.specs.Prelude.{Err}
use Rattle.std.proofs.Common.{◌∙◌, ◌∷◌, sym, refl, ap}
use Rattle.std.proofs.lemmas.Result.{err_from_is_err_and}
use Rattle.env_subst.specs.Settings.{setting_of}
use Rattle.env_subst.specs.Contents.{content_of}
use Rattle.env_subst.specs.Sayings.{sayings_of}
use Rattle.env_subst.specs.Expansions.{refers_to}
use Rattle.env_subst.specs.Desks.{read, tasks_of, desk_of, deeper_of}
use Rattle.env_subst.proofs.Doing.{says_nothing, refers_says, refers_badly, refers_on, refers_no_more, leads_too, desk}
use Rattle.env_subst.proofs.reading.read_variable.Goals as goal

pub returns-in_err-desk : goal.returns-in_err-desk
returns-in_err-desk c =
    let l = c.args.setting.now.locals.now in
    let w = setting_of c.args.setting.now in
    let d = c.args.desk.now in
    let p = err_from_is_err_and c.from_residual.result c.from_residual.ensures.1 in
    rw (p.1, p.2) (λ _. refers_no_more w (tasks_of l d.tasks.tasks.items) d.names d.pieces d.references c.args.owner c.args.rest.text c.args.rest.at
    (refers_to w (deeper_of w d.names) d.names c.args.owner c.args.at c.args.name c.args.selection c.args.attribute) _ (c.in_err-desk.ensures {u = tt}))

pub say_all-requires : goal.say_all-requires
say_all-requires c =
    let l = c.args.setting.now.locals.now in
    says_nothing (setting_of c.args.setting.now) c.args.desk.now.names c.args.name c.args.selection c.args.attribute
    (content_of c.in_ok-held.held) (content_of c.taken-holding.result) (sayings_of l c.in-Some.sayings)
    (c.in_ok-held.ensures {u = tt}) c.taken-holding.ensures ((c.in-Some.ensures {u = tt}) l)

pub returns-in_ok-push_rest-in-Some : goal.returns-in_ok-push_rest-in-Some
returns-in_ok-push_rest-in-Some c =
    let l = c.args.setting.now.locals.now in
    let w = setting_of c.args.setting.now in
    let d = c.args.desk.now in
    let more = tasks_of l c.push_rest.new.stack.tasks.items in
    leads_too w _ _ (desk_of l c.say_all.new.desk) c.say_all.result
    (refers_says w (desk more d.names d.pieces c.in_ok-desk.field-0) c.args.owner c.args.at c.args.name c.args.selection c.args.attribute
    (content_of c.in_ok-held.held) (content_of c.taken-holding.result) (c.in_ok-held.ensures {u = tt}) c.taken-holding.ensures
    (sayings_of l c.in-Some.sayings) ((c.in-Some.ensures {u = tt}) l)
    ∙ refers_on w (tasks_of l d.tasks.tasks.items) d.names d.pieces d.references c.args.owner c.args.rest.text c.args.rest.at
    (refers_to w (deeper_of w d.names) d.names c.args.owner c.args.at c.args.name c.args.selection c.args.attribute) more c.in_ok-desk.field-0
    (c.in_ok-desk.ensures {u = tt}) ((c.in_ok-push_rest-in-Some.ensures {u = tt}) l))
    c.say_all.ensures

pub returns-in-None : goal.returns-in-None
returns-in-None c = λ known.
    let l = c.args.setting.now.locals.now in
    let w = setting_of c.args.setting.now in
    let d = c.args.desk.now in
    let more = read c.args.owner c.args.rest.text c.args.rest.at ∷ tasks_of l d.tasks.tasks.items in
    sym (refers_on w (tasks_of l d.tasks.tasks.items) d.names d.pieces d.references c.args.owner c.args.rest.text c.args.rest.at
    (refers_to w (deeper_of w d.names) d.names c.args.owner c.args.at c.args.name c.args.selection c.args.attribute) more c.in_ok-desk.field-0
    (c.in_ok-desk.ensures {u = tt}) refl)
    ∙ refers_badly w (desk more d.names d.pieces c.in_ok-desk.field-0) c.args.owner c.args.at c.args.name c.args.selection c.args.attribute
    (content_of c.in_ok-held.held) (content_of c.taken-holding.result) (c.in_ok-held.ensures {u = tt}) c.taken-holding.ensures
    ((c.in-None.ensures {u = tt}) l)
    ∙ ap (λ e. Err e) (sym (c.bad_attribute.ensures known))
