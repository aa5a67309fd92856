-- The entry page: which entry stands at which program address.
use Rattle.std.specs.Prelude.{◌≡◌, ℕ, ◌+◌, ◌-◌, ◌<◌, ◌&&◌, nat_le, nat_lt, List, [], ◌∷◌, Option, Some, None, if◌then◌else◌}
use Rattle.mote_layout.specs.declared.page.Entry.{Entry}
use Rattle.mote_layout.specs.declared.page.Entry.TheVariants.{StoreX, StoreXInc, StoreXDec, StoreYInc, StoreYDec, StoreZInc, StoreZDec, StoreY, StoreZ, StoreSts, LoadX, LoadXInc, LoadXDec, LoadYInc, LoadYDec, LoadZInc, LoadZDec, LoadY, LoadZ, LoadLds, PushGuard, PopGuard, SpGuard, LocalCall, SlotIndirect, Return, Reserve, Kernel, Slot}

-- the first address of the page, above all code of modules
abbrev pub page_start : ℕ
page_start = 0xF000

-- how many displacements a store or load at Y + q or Z + q has: six bits (AVR Instruction Set Manual, "STD" and "LDD")
abbrev pub displacement_count : ℕ
displacement_count = 64

-- how many kernel calls there are, and how many subscription slots a module has
abbrev pub kernel_call_count : ℕ
kernel_call_count = 12

abbrev pub slot_count : ℕ
slot_count = 16

-- The page by its entries: where an entry stands, with the range of its number if it has one.
abbrev pub StandsAt : Entry → ℕ → Type 0
StandsAt StoreX address = address ≡ 0xF000
StandsAt StoreXInc address = address ≡ 0xF001
StandsAt StoreXDec address = address ≡ 0xF002
StandsAt StoreYInc address = address ≡ 0xF003
StandsAt StoreYDec address = address ≡ 0xF004
StandsAt StoreZInc address = address ≡ 0xF005
StandsAt StoreZDec address = address ≡ 0xF006
StandsAt (StoreY q) address = (q < displacement_count) × (address ≡ 0xF010 + q)
StandsAt (StoreZ q) address = (q < displacement_count) × (address ≡ 0xF050 + q)
StandsAt StoreSts address = address ≡ 0xF090
StandsAt LoadX address = address ≡ 0xF381
StandsAt LoadXInc address = address ≡ 0xF382
StandsAt LoadXDec address = address ≡ 0xF383
StandsAt LoadYInc address = address ≡ 0xF384
StandsAt LoadYDec address = address ≡ 0xF385
StandsAt LoadZInc address = address ≡ 0xF386
StandsAt LoadZDec address = address ≡ 0xF387
StandsAt (LoadY q) address = (q < displacement_count) × (address ≡ 0xF300 + q)
StandsAt (LoadZ q) address = (q < displacement_count) × (address ≡ 0xF340 + q)
StandsAt LoadLds address = address ≡ 0xF380
StandsAt PushGuard address = address ≡ 0xF091
StandsAt PopGuard address = address ≡ 0xF092
StandsAt SpGuard address = address ≡ 0xF093
StandsAt LocalCall address = address ≡ 0xF094
StandsAt SlotIndirect address = address ≡ 0xF095
StandsAt Return address = address ≡ 0xF096
StandsAt Reserve address = address ≡ 0xF097
StandsAt (Kernel n) address = (n < kernel_call_count) × (address ≡ 0xF100 + n)
StandsAt (Slot i) address = (i < slot_count) × (address ≡ 0xF200 + i)

-- Nothing stands at the address.
abbrev pub IsInNoRow : ℕ → Type 0
IsInNoRow address = (e : Entry) → ¬ StandsAt e address

-- A row of the page: its first address, how many addresses it has, and the entry by its place in the row.
pub record Row : Type 0 where
  pub first : ℕ
  pub count : ℕ
  pub entry : ℕ → Entry

-- a row of one address
abbrev pub row : ℕ → Entry → Row
row address e = record { first = address; count = 1; entry = λ _. e }

-- a row of several addresses
abbrev pub rows_from : ℕ → ℕ → (ℕ → Entry) → Row
rows_from first count entry = record { first = first; count = count; entry = entry }

-- The page by its addresses, in rising order.
unfoldable pub page : List Row
page =
    row 0xF000 StoreX
    ∷ row 0xF001 StoreXInc
    ∷ row 0xF002 StoreXDec
    ∷ row 0xF003 StoreYInc
    ∷ row 0xF004 StoreYDec
    ∷ row 0xF005 StoreZInc
    ∷ row 0xF006 StoreZDec
    ∷ rows_from 0xF010 displacement_count (λ q. StoreY q)
    ∷ rows_from 0xF050 displacement_count (λ q. StoreZ q)
    ∷ row 0xF090 StoreSts
    ∷ row 0xF091 PushGuard
    ∷ row 0xF092 PopGuard
    ∷ row 0xF093 SpGuard
    ∷ row 0xF094 LocalCall
    ∷ row 0xF095 SlotIndirect
    ∷ row 0xF096 Return
    ∷ row 0xF097 Reserve
    ∷ rows_from 0xF100 kernel_call_count (λ n. Kernel n)
    ∷ rows_from 0xF200 slot_count (λ i. Slot i)
    ∷ rows_from 0xF300 displacement_count (λ q. LoadY q)
    ∷ rows_from 0xF340 displacement_count (λ q. LoadZ q)
    ∷ row 0xF380 LoadLds
    ∷ row 0xF381 LoadX
    ∷ row 0xF382 LoadXInc
    ∷ row 0xF383 LoadXDec
    ∷ row 0xF384 LoadYInc
    ∷ row 0xF385 LoadYDec
    ∷ row 0xF386 LoadZInc
    ∷ row 0xF387 LoadZDec
    ∷ []

-- the entry of an address among rows
abbrev pub entry_among : List Row → ℕ → Option Entry
entry_among [] address = None
entry_among (r ∷ rs) address =
    if nat_le r.first address && nat_lt address (r.first + r.count)
    then Some (r.entry (address - r.first))
    else entry_among rs address

-- the entry at an address, if one stands there
abbrev pub entry_at : ℕ → Option Entry
entry_at address = entry_among page address
