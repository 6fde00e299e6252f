-- A store after its first checkpoint: one object of two null fields and two bytes, which one root names. Its car
-- stands on page 3, its catalog on page 4.
use Rattle.std.specs.Prelude.{ℕ, List, [], ◌∷◌, replicate, None, codes}
use Rattle.std.specs.FinMap.{insert, empty}
use Rattle.sha2.specs.Sha256.{sha256}
use Rattle.pm_types.specs.declared.limits.TheConstants.{VERSION}
use Rattle.pm_types.specs.declared.object.Slot.TheVariants.{Live}
use Rattle.pm_layout.specs.declared.header.Header.{Header}
use Rattle.pm_model.specs.World.{Copy}
use Rattle.pm_image.specs.declared.car.CarImage.{CarImage}
use Rattle.pm_image.specs.declared.catalog.CatEntry.TheVariants.{Car, Root}
use Rattle.pm_image.specs.declared.catalog.CatalogPage.{CatalogPage}
use Rattle.pm_image.specs.CarPages.{padded, car_spelling}
use Rattle.pm_image.specs.CatalogPages.{catalog_spelling}

-- the bytes of the object
abbrev pub first_bytes : List ℕ
first_bytes = 0xca ∷ 0xfe ∷ []

-- the car: its only slot has the object
abbrev pub first_car : CarImage
first_car = record { number = 1; slots = (0, Live (record { id = 1; fields = None ∷ None ∷ []; bytes = first_bytes })) ∷ [] }

-- page 3
unfoldable pub first_car_page : List ℕ
first_car_page = padded (car_spelling first_car)

-- the catalog: the car, in train 1, and the root, which names its slot 0
abbrev pub first_catalog : CatalogPage
first_catalog = record { next = 0; digest = replicate 32 0; entries = Car 1 1 3 (sha256 first_car_page) ∷ Root (codes "a") (record { car = 1; slot = 0 }) ∷ [] }

-- page 4
unfoldable pub first_catalog_page : List ℕ
first_catalog_page = padded (catalog_spelling first_catalog)

-- the header: copy 1
abbrev pub first_header : Header
first_header = record { version = VERSION; epoch = 1; next = 2; first = 4; digest = sha256 first_catalog_page }

-- the copy: the object, its root, and the next identity
abbrev pub first_copy : Copy
first_copy = record { heap = insert empty 1 (record { fields = None ∷ None ∷ []; bytes = first_bytes }); roots = insert empty (codes "a") 1; next = 2 }
