-- The options: those of scons(1) that a build takes, by their letters and by their long spellings.
use Rattle.std.specs.Prelude.{ℕ, List, [], ◌∷◌, Bool, true, false, ◌==◌, Option, Some, None, codes, if◌then◌else◌}
use Rattle.std.specs.List.{list_any}
use Rattle.std.specs.Str.{bytes_eq}
use Rattle.scons_words.specs.declared.switch.Switch.{Switch}
use Rattle.scons_words.specs.declared.switch.Switch.TheVariants as switch
use Rattle.scons_words.specs.declared.switch.Flag.{Flag}
use Rattle.scons_words.specs.declared.switch.Flag.TheVariants as flag
use Rattle.scons_words.specs.declared.switch.Valued.TheVariants as valued
use Rattle.scons_words.specs.declared.flags.Flags.{Flags}

abbrev pub no_flags : Flags
no_flags = record { keep = false; dry = false; clean = false; quiet = false; silent = false; help = false }

abbrev pub with_flag : Flags → Flag → Flags
with_flag flags flag.Keep = record flags { keep = true }
with_flag flags flag.Dry = record flags { dry = true }
with_flag flags flag.Clean = record flags { clean = true }
with_flag flags flag.Quiet = record flags { quiet = true }
with_flag flags flag.Silent = record flags { silent = true }
with_flag flags flag.Help = record flags { help = true }

abbrev pub is_among : List (List ℕ) → List ℕ → Bool
is_among names name = list_any (λ n. bytes_eq n name) names

-- the option of a letter: `k n c Q s h f j`
abbrev pub short_switch : ℕ → Option Switch
short_switch b =
    if b == 107 then Some (switch.Flag flag.Keep)
    else (if b == 110 then Some (switch.Flag flag.Dry)
    else (if b == 99 then Some (switch.Flag flag.Clean)
    else (if b == 81 then Some (switch.Flag flag.Quiet)
    else (if b == 115 then Some (switch.Flag flag.Silent)
    else (if b == 104 then Some (switch.Flag flag.Help)
    else (if b == 102 then Some (switch.Valued valued.Script)
    else (if b == 106 then Some (switch.Valued valued.Jobs) else None)))))))

-- the option of a long spelling
abbrev pub long_switch : List ℕ → Option Switch
long_switch name =
    if bytes_eq name (codes "keep-going") then Some (switch.Flag flag.Keep)
    else (if is_among (codes "no-exec" ∷ codes "just-print" ∷ codes "dry-run" ∷ codes "recon" ∷ []) name then Some (switch.Flag flag.Dry)
    else (if is_among (codes "clean" ∷ codes "remove" ∷ []) name then Some (switch.Flag flag.Clean)
    else (if is_among (codes "silent" ∷ codes "quiet" ∷ []) name then Some (switch.Flag flag.Silent)
    else (if bytes_eq name (codes "help") then Some (switch.Flag flag.Help)
    else (if is_among (codes "file" ∷ codes "makefile" ∷ codes "sconstruct" ∷ []) name then Some (switch.Valued valued.Script)
    else (if bytes_eq name (codes "jobs") then Some (switch.Valued valued.Jobs)
    else (if bytes_eq name (codes "load") then Some (switch.Valued valued.Load)
    else (if bytes_eq name (codes "hash-format") then Some (switch.Valued valued.HashFormat)
    else (if bytes_eq name (codes "debug") then Some (switch.Valued valued.Debug)
    else (if bytes_eq name (codes "tree") then Some (switch.Valued valued.Tree) else None))))))))))
