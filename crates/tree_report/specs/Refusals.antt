-- The texts that tell why an application's files are not used.
use Rattle.std.specs.Prelude.{ℕ, List, ◌++◌, codes}
use Rattle.std.specs.Fmt.{decimal}
use Rattle.app_config.specs.Configuration.{configuration_path}
use Rattle.app_config.specs.declared.config.ConfigFault.{ConfigFault}
use Rattle.app_config.specs.declared.config.ConfigKind.{ConfigKind}
use Rattle.app_config.specs.declared.config.ConfigKind.TheVariants.{UnknownWord, WordCount, BadPath, NotUtf8, Memory}
use Rattle.app_config.specs.declared.config.ConfigKind.TheVariants.{BadName as BadConstant}
use Rattle.tree_report.specs.declared.limits.Limit.{Limit as LimitKind}
use Rattle.tree_report.specs.declared.limits.Limit.TheVariants.{Files, Bytes, Path}
use Rattle.tree_report.specs.declared.limits.ExceededLimit.{ExceededLimit}
use Rattle.tree_report.specs.declared.refusal.Refusal.{Refusal}
use Rattle.tree_report.specs.declared.refusal.Refusal.TheVariants.{Limit, Configuration, BadName, TwoRoots}

-- the word for a limit: the number of files, their bytes, or a path's length
abbrev pub limit_name : LimitKind → List ℕ
limit_name Files = codes "files"
limit_name Bytes = codes "bytes"
limit_name Path = codes "path"

-- `limit: files 4097`
abbrev pub limit_text : ExceededLimit → List ℕ
limit_text exceeded = codes "limit: " ++ limit_name exceeded.limit ++ codes " " ++ decimal exceeded.number

-- what is wrong with a line; want of memory is no line's fault
abbrev pub fault_name : ConfigKind → List ℕ
fault_name UnknownWord = codes "unknown word"
fault_name WordCount = codes "word count"
fault_name BadPath = codes "bad path"
fault_name BadConstant = codes "bad name"
fault_name NotUtf8 = codes "not UTF-8"
fault_name Memory = codes "out of memory"

-- `config/loader.conf:2: unknown word`
abbrev pub fault_text : ConfigFault → List ℕ
fault_text fault = configuration_path ++ codes ":" ++ decimal fault.line ++ codes ": " ++ fault_name fault.kind

-- `limit: ..`, `config/loader.conf:..`, `bad name: app/lib/foo-bar.rb`, `two roots: lib/x`
abbrev pub refusal_text : Refusal → List ℕ
refusal_text (Limit exceeded) = limit_text exceeded
refusal_text (Configuration fault) = fault_text fault
refusal_text (BadName path) = codes "bad name: " ++ path
refusal_text (TwoRoots path) = codes "two roots: " ++ path
