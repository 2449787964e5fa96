mod Storing
mod Holding
mod Keeping
mod Serving
mod Linking
