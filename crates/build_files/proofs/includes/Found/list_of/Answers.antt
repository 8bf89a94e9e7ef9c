use Rattle.std.proofs.Common.{◌∙◌, Some, sym, refl}
use Rattle.std.specs.Cmp.Lexicographic.{pointwise}
use Rattle.std.specs.Global.{Vec}
use Rattle.std.specs.Str.{bytes_eq}
use Rattle.build_model.specs.Rules.{Path}
use Rattle.build_files.specs.declared.includes.Found.{Found}
use Rattle.std.proofs.lemmas.Bool.Decides.{Decides-eqb}
use Rattle.build_files.proofs.Scans.{dirs_here, dirs_kept, dirs_stay, found_listed, list_here, list_same}
use Rattle.build_files.proofs.includes.Found.list_of.Goals as goal

pub returns-then-eq-clause-list : goal.returns-then-eq-clause-list
returns-then-eq-clause-list c = λ b g gone around at is.
    list_same b g gone around c.args.self.now c.in-Some.last c.args.id c.in-Some.list c.args.rule.now c.in-Some.is
    ((Decides-eqb c.in-Some.last.0 c.args.id.0).0 (sym c.eq.ensures ∙ c.if-eq.true)) at is

pub returns-in_err-list-clause-truth : goal.returns-in_err-list-clause-truth
returns-in_err-list-clause-truth c = λ b g gone around at is.
    let new : Found = record c.args.self.now { lists = c.insert_full.new.self } in
    let stay = dirs_kept c.args.self.now new c.in_err-list.ensures.err in
    found_listed b g gone around c.args.self.now new refl stay
    (λ rule list noted.
    let l = is.last rule list noted in
    record { declared = l.declared; at = l.at; dirs = stay list l.declared.paths l.dirs }) is

pub returns-clause-truth : goal.returns-clause-truth
returns-clause-truth c = λ b g gone around at is.
    let new : Found = record c.args.self.now { lists = c.insert_full.new.self; last = Some (c.args.id, c.in_ok-list.list) } in
    let here = dirs_here new c.in_ok-list.list c.into_vec-dirs.result c.args.rule.now.paths (c.into_vec-dirs.ensures ∙ c.in_ok-copy.ensures) c.in_ok-list.ensures.stored in
    found_listed b g gone around c.args.self.now new refl
    (dirs_stay c.args.self.now new (λ (x y : Vec Path). pointwise bytes_eq x.items y.items) c.into_vec-dirs.result c.in_ok-list.ensures.keys)
    (list_here g new c.args.id c.in_ok-list.list c.args.rule.now refl at here) is

pub returns-clause-list : goal.returns-clause-list
returns-clause-list c = λ b g gone around at is.
    dirs_here (record c.args.self.now { lists = c.insert_full.new.self; last = Some (c.args.id, c.in_ok-list.list) }) c.in_ok-list.list c.into_vec-dirs.result c.args.rule.now.paths (c.into_vec-dirs.ensures ∙ c.in_ok-copy.ensures) c.in_ok-list.ensures.stored
