use Rattle.std.proofs.Common.{ap}
use Rattle.scons_rules.specs.Aliased.{Left}
use Rattle.scons_rules.proofs.Leaving.{more_alias, more_path, more_text, file_at, dir_at}
use Rattle.scons_rules.proofs.Walking.{on_ok}
use Rattle.scons_rules.proofs.ignored.Ignored.add.Goals as goal

pub returns-in-Alias : goal.returns-in-Alias
returns-in-Alias c =
    on_ok c.add_name.result c.add_name.ensures (λ is nodes leaves.
    more_alias nodes c.args.self.now c.add_name.new.self c.args.node.now c.in-Alias.name leaves c.in-Alias.is (ap (λ (l : Left). l.paths) is) (ap (λ (l : Left). l.aliases) is))

pub returns-in-File : goal.returns-in-File
returns-in-File c =
    on_ok c.add_path.result c.add_path.ensures (λ is nodes leaves.
    more_path nodes c.args.self.now c.add_path.new.self c.args.node.now c.in-File.path leaves (file_at c.in-File.path c.args.node.now c.in-File.is) (ap (λ (l : Left). l.aliases) is)
    (ap (λ (l : Left). l.paths) is))

pub returns-in-Dir : goal.returns-in-Dir
returns-in-Dir c =
    on_ok c.add_path-in-Dir.result c.add_path-in-Dir.ensures (λ is nodes leaves.
    more_path nodes c.args.self.now c.add_path-in-Dir.new.self c.args.node.now c.in-Dir.path leaves (dir_at c.in-Dir.path c.args.node.now c.in-Dir.is) (ap (λ (l : Left). l.aliases) is)
    (ap (λ (l : Left). l.paths) is))

pub returns-in-Text : goal.returns-in-Text
returns-in-Text c = λ nodes leaves. more_text nodes c.args.self.now c.args.node.now _ leaves c.in-Text.is
