-- The program memory: a bank of words for each domain.
use Rattle.std.specs.Prelude.{ℕ, ◌+◌, ◌-◌, ◌/◌, ◌%◌, ◌<◌, ◌≤◌, List, [], nat_lt, slice_index, slice_index_or, replicate, if◌then◌else◌}
use Rattle.mote_layout.specs.Memory.{domain_count, banks_start, bank_words, bank_start}

-- The banks by their domains, each as the words that it was filled with. A bank reads as 0 behind them.
abbrev pub Banks : Type 0
Banks = List (List ℕ)

-- the word at a program address: 0 outside the banks
unfoldable pub word_at : Banks → ℕ → ℕ
word_at banks address =
    if nat_lt address banks_start then 0
    else slice_index (slice_index_or banks ((address - banks_start) / bank_words) []) ((address - banks_start) % bank_words)

-- an address of a domain's bank, and of any domain's bank
abbrev pub IsInBank : ℕ → ℕ → Type 0
IsInBank d address = (bank_start d ≤ address) × (address < bank_start d + bank_words)

abbrev pub IsInSomeBank : ℕ → Type 0
IsInSomeBank address = (banks_start ≤ address) × (address < bank_start domain_count)

-- empty banks
unfoldable pub no_banks : Banks
no_banks = replicate domain_count []
