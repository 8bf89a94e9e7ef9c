-- The names of SCons that are left out, in the order of its manual, and behind them those of which the manual doesn't tell: what
-- `names.md` lists under "What isn't here".
use Rattle.std.specs.Prelude.{ℕ, Bool, ◌||◌, List, [], ◌∷◌, ◌++◌, codes}
use Rattle.std.specs.List.{list_any}
use Rattle.std.specs.Str.{bytes_eq}

-- builders
abbrev builders : List (List ℕ)
builders =
    codes "CFile" ∷ codes "CXXFile" ∷ codes "DVI" ∷ codes "InstallVersionedLib" ∷ codes "Jar" ∷ codes "Java" ∷
    codes "JavaH" ∷ codes "LoadableModule" ∷ codes "M4" ∷ codes "Moc" ∷ codes "MOFiles" ∷ codes "MSVSProject" ∷
    codes "MSVSSolution" ∷ codes "Package" ∷ codes "PCH" ∷ codes "PDF" ∷ codes "POInit" ∷ codes "PostScript" ∷
    codes "POTUpdate" ∷ codes "POUpdate" ∷ codes "ProgramAllAtOnce" ∷ codes "RES" ∷ codes "RMIC" ∷
    codes "RPCGenClient" ∷ codes "RPCGenHeader" ∷ codes "RPCGenService" ∷ codes "RPCGenXDR" ∷ codes "SharedLibrary" ∷
    codes "SharedObject" ∷ codes "StaticObject" ∷ codes "Tar" ∷ codes "Translate" ∷ codes "TypeLibrary" ∷ codes "Uic" ∷
    codes "Zip" ∷ []

-- functions
abbrev functions : List (List ℕ)
functions =
    codes "Action" ∷ codes "AddMethod" ∷ codes "AddOption" ∷ codes "AddPostAction" ∷ codes "AddPreAction" ∷
    codes "AllowSubstExceptions" ∷ codes "AppendENVPath" ∷ codes "BuildDir" ∷ codes "CacheDir" ∷ codes "Clean" ∷
    codes "Configure" ∷ codes "Detect" ∷ codes "Dictionary" ∷ codes "Dump" ∷ codes "Entry" ∷ codes "Execute" ∷
    codes "Exit" ∷ codes "FindFile" ∷ codes "FindInstalledFiles" ∷ codes "FindIxes" ∷ codes "FindPathDirs" ∷
    codes "FindSourceFiles" ∷ codes "GetBuildFailures" ∷ codes "GetBuildPath" ∷ codes "GetLaunchDir" ∷
    codes "GetOption" ∷ codes "Literal" ∷ codes "Local" ∷ codes "MergeFlags" ∷ codes "NoCache" ∷ codes "NoClean" ∷
    codes "Override" ∷ codes "ParseConfig" ∷ codes "ParseDepends" ∷ codes "ParseFlags" ∷ codes "Platform" ∷
    codes "Precious" ∷ codes "PrependENVPath" ∷ codes "PrependUnique" ∷ codes "Progress" ∷ codes "Pseudo" ∷
    codes "PyPackageDir" ∷ codes "RemoveMethod" ∷ codes "ReplaceIxes" ∷ codes "Repository" ∷ codes "SConscriptChdir" ∷
    codes "SConsignFile" ∷ codes "Scanner" ∷ codes "SetOption" ∷ codes "SideEffect" ∷ codes "SourceCode" ∷
    codes "SourceSignatures" ∷ codes "Stop" ∷ codes "Tag" ∷ codes "TargetSignatures" ∷ codes "Tool" ∷ codes "Value" ∷
    codes "Virtualenv" ∷ codes "WhereIs" ∷ []

-- what scripts read
abbrev what_is_read : List (List ℕ)
what_is_read =
    codes "ARGLIST" ∷ codes "BUILD_TARGETS" ∷ codes "COMMAND_LINE_TARGETS" ∷ codes "DEFAULT_TARGETS" ∷ []

-- variables of the command line
abbrev command_line : List (List ℕ)
command_line =
    codes "Variables" ∷ codes "BoolVariable" ∷ codes "EnumVariable" ∷ codes "ListVariable" ∷ codes "PackageVariable" ∷
    codes "PathVariable" ∷ []

-- actions
abbrev actions : List (List ℕ)
actions =
    codes "Chmod" ∷ codes "Copy" ∷ codes "Delete" ∷ codes "Mkdir" ∷ codes "Move" ∷ codes "Touch" ∷ []

-- scanners
abbrev scanners : List (List ℕ)
scanners =
    codes "CScan" ∷ codes "CScanner" ∷ codes "DirScanner" ∷ codes "DScanner" ∷ codes "ProgramScanner" ∷
    codes "SourceFileScanner" ∷ []

-- what stands there beside
abbrev beside : List (List ℕ)
beside =
    codes "BuildTask" ∷ codes "CleanTask" ∷ codes "GlobalDefaultBuilders" ∷ codes "GlobalDefaultEnvironmentFunctions" ∷
    codes "HelpFunction" ∷ codes "PrintHelp" ∷ codes "QuestionTask" ∷ codes "StringIO" ∷ codes "TargetList" ∷
    codes "call_stack" ∷ codes "help_text" ∷ codes "main" ∷ codes "sconscript_reading" ∷
    codes "set_missing_sconscript_error" ∷ codes "start_time" ∷ []

unfoldable pub names_left_out : List (List ℕ)
names_left_out = builders ++ functions ++ what_is_read ++ command_line ++ actions ++ scanners ++ beside

-- the attributes of environments beside those names
unfoldable pub attributes_left_out : List (List ℕ)
attributes_left_out =
    codes "CopyAs" ∷ codes "CopyTo" ∷ codes "Export" ∷ codes "Import" ∷ codes "JarFile" ∷ codes "JavaClassDir" ∷
    codes "JavaClassFile" ∷ codes "JavaFile" ∷ codes "added_methods" ∷ codes "arg2nodes" ∷ codes "backtick" ∷
    codes "cache_timestamp_newer" ∷ codes "decide_source" ∷ codes "decide_target" ∷ codes "fs" ∷ codes "get_CacheDir" ∷
    codes "get_builder" ∷ codes "get_factory" ∷ codes "get_scanner" ∷ codes "get_src_sig_type" ∷
    codes "get_tgt_sig_type" ∷ codes "gvars" ∷ codes "has_key" ∷ codes "items" ∷ codes "keys" ∷ codes "lookup_list" ∷
    codes "lvars" ∷ codes "scanner_map_delete" ∷ codes "setdefault" ∷ codes "subst_kw" ∷ codes "subst_list" ∷
    codes "subst_path" ∷ codes "subst_target_source" ∷ codes "validate_CacheDir_class" ∷ codes "values" ∷ []

abbrev pub is_name_left_out : List ℕ → Bool
is_name_left_out text = list_any (λ n. bytes_eq n text) names_left_out

abbrev pub is_attribute_left_out : List ℕ → Bool
is_attribute_left_out text = is_name_left_out text || list_any (λ n. bytes_eq n text) attributes_left_out
