-- The faults of the layers below, as faults of names.
use Rattle.std.specs.Prelude.{ℕ, ◌+◌, List, Option, Some, None, Result, Ok, Err}
use Rattle.scons_base.specs.declared.fault.PathFault.{PathFault}
use Rattle.scons_base.specs.declared.fault.PathFault.TheVariants as path
use Rattle.scons_base.specs.declared.limits.TheConstants.{TEXT_LIMIT}
use Rattle.scons_base.specs.PathFaults.{fault_in}
use Rattle.scons_base.specs.Resolve.{resolved, resolve_fault}
use Rattle.variant_dirs.specs.declared.fault.VariantFault.{VariantFault}
use Rattle.variant_dirs.specs.declared.fault.VariantFault.TheVariants as variant
use Rattle.env_vars.specs.declared.fault.GivenFault.{GivenFault}
use Rattle.env_vars.specs.declared.fault.GivenFault.TheVariants as given
use Rattle.env_subst.specs.declared.fault.SubstFault.{SubstFault}
use Rattle.env_subst.specs.declared.fault.SubstFault.TheVariants as subst
use Rattle.scons_decls.specs.declared.fault.NameFault.{NameFault}
use Rattle.scons_decls.specs.declared.fault.NameFault.TheVariants.{BadPath, Variant, Subst, Memory}

abbrev pub of_subst : SubstFault → NameFault
of_subst (subst.BadBrace name at) = Subst (subst.BadBrace name at)
of_subst (subst.BadAttr name at) = Subst (subst.BadAttr name at)
of_subst (subst.Marks piece) = Subst (subst.Marks piece)
of_subst (subst.TooLong len) = Subst (subst.TooLong len)
of_subst (subst.TooMany count) = Subst (subst.TooMany count)
of_subst (subst.BadPath fault) = Subst (subst.BadPath fault)
of_subst subst.Memory = Memory

-- a value that would be too long as a text
abbrev pub too_long : NameFault
too_long = Subst (subst.TooLong (TEXT_LIMIT + 1))

abbrev pub of_given : GivenFault → NameFault
of_given given.TooLong = too_long
of_given given.Memory = Memory

abbrev pub of_path : PathFault → NameFault
of_path path.Empty = BadPath path.Empty
of_path (path.BadByte place) = BadPath (path.BadByte place)
of_path (path.TooLong len) = BadPath (path.TooLong len)
of_path path.NotNormal = BadPath path.NotNormal
of_path path.Memory = Memory

abbrev pub of_variant : VariantFault → NameFault
of_variant variant.Nested = Variant variant.Nested
of_variant variant.Twice = Variant variant.Twice
of_variant (variant.BadName fault) = Variant (variant.BadName fault)
of_variant variant.Memory = Memory

-- what a text of an environment stands for, or its fault
abbrev pub or_subst : {X : Type 0} → Result X SubstFault → Result X NameFault
or_subst (Ok x) = Ok x
or_subst (Err fault) = Err (of_subst fault)

-- a path, or why it is none
abbrev pub or_path : List ℕ → Option PathFault → Result (List ℕ) NameFault
or_path text None = Ok text
or_path text (Some fault) = Err (of_path fault)

-- a text that is a path in normal form
abbrev pub path_read : List ℕ → Result (List ℕ) NameFault
path_read text = or_path text (fault_in text)

-- the path that a text names, read from a directory, where the top directory has the absolute path `top`
abbrev pub path_from : List ℕ → List ℕ → List ℕ → Result (List ℕ) NameFault
path_from top dir text = or_path (resolved top dir text) (resolve_fault top dir text)
