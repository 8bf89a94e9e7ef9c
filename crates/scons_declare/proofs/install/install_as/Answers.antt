use Rattle.std.proofs.Common.{arith, ◌≡◌, length}
use Rattle.std.specs.Prelude.{codes}
use Rattle.scons_decls.specs.Paths.{file_of}
use Rattle.scons_decls.specs.State.{declared_of}
use Rattle.scons_declare.proofs.Lengths.{each_length}
use Rattle.scons_declare.proofs.install.install_as.Goals as goal

pub copy_each-requires : goal.copy_each-requires
copy_each-requires c =
    let named = file_of (declared_of c.args.state.now) c.args.site.env.0 (codes "InstallAs") in
    let made : length c.in_ok-made.made ≡ length c.args.targets.now = each_length named c.args.targets.now c.in_ok-made.made (c.in_ok-made.ensures {u = tt}).ok in
    let files : length c.in_ok-files.files ≡ length c.args.sources.now = each_length named c.args.sources.now c.in_ok-files.files (c.in_ok-files.ensures {u = tt}).ok in
    grind arith
