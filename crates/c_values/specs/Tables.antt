-- The tables of a register.
use Rattle.std.specs.Prelude.{◌≡◌, ℕ, List, None}
use Rattle.work_registry.specs.EntryValue.{EntryValue}
use Rattle.register_tables.specs.declared.form.Form.TheVariants.{Exact}
use Rattle.register_tables.specs.declared.wanted.Wanted.{Wanted}
use Rattle.register_tables.specs.ClaimsTable.{claims_text}
use Rattle.register_tables.specs.WorksTable.{works_text}
use Rattle.register_tables.specs.HistoryTable.{history_text}
use Rattle.register_tables.specs.Summary.{summary_text}
use Rattle.c_values.specs.Registers.{IsRegisterOf}
use Rattle.c_values.specs.declared.tables.Table.{Table}
use Rattle.c_values.specs.declared.tables.Table.TheVariants.{Claims, Works, History, Summary}

-- every entry is wanted
abbrev pub all_wanted : Wanted
all_wanted = record { work = None; submitter = None; number = None; status = None }

-- the text of this table of a history, in the exact form
abbrev pub table_text : Table → List EntryValue → List ℕ
table_text Claims history = claims_text Exact all_wanted history
table_text Works history = works_text Exact all_wanted history
table_text History history = history_text Exact all_wanted history
table_text Summary history = summary_text history

-- the text is this table of the register's history
pub record IsTableOf (table : Table) (register text : List ℕ) : Type 0 where
  pub history : List EntryValue
  pub is_register : IsRegisterOf register history
  pub told : text ≡ table_text table history
