pub mod Becoming
pub mod ItemKinds
pub mod ItemModel
pub mod ItemParts
pub mod ItemRests
pub mod ItemsEnd
pub mod ItemsRight
