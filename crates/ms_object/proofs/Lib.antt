mod FieldLaws
mod LabelLaws
mod Many
mod ObjectLaws
mod Pushed
mod RowLaws
mod Sizes
mod StoreLaws
pub mod BlobLaws
