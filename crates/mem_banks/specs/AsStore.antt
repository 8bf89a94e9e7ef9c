-- The banks as they are kept, as a store.
use Rattle.std.specs.Prelude.{reverse}
use Rattle.mem_banks.specs.declared.banks.MemBanks.{MemBanks}
use Rattle.mem_banks.specs.Past.{Store}

abbrev pub store_of : MemBanks → Store
store_of banks = record { a = banks.a.items; b = banks.b.items; changes = reverse banks.changes.items; saved = banks.saved.items }
