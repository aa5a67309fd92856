-- The addresses of entries are those of the page.
use Rattle.std.proofs.Common.{refl}
use Rattle.mote_layout.specs.Page.{StandsAt}
use Rattle.mote_layout.specs.declared.page.Entry.{Entry}
use Rattle.mote_layout.specs.declared.page.Entry.TheVariants.{StoreY, StoreZ, LoadY, LoadZ, Kernel, Slot}
use Rattle.unit_code.specs.Templates.{IsEntry, address_of}

pub stands : (e : Entry) → IsEntry e → StandsAt e (address_of e)
stands (StoreY q) h = (h, refl)
stands (StoreZ q) h = (h, refl)
stands (LoadY q) h = (h, refl)
stands (LoadZ q) h = (h, refl)
stands (Kernel n) h = (h, refl)
stands (Slot i) h = (h, refl)
stands _ h = refl
