pub mod Mapping
pub mod TableInside
pub mod ConfigLines
pub mod Drafts
pub mod DraftInside
pub mod Configuration
pub mod Grammar
pub mod ConfigInside
