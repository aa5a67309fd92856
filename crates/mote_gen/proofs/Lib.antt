mod Drawn
mod EventLaws
mod Events
mod ImageLaws
mod Images
mod Lists
mod Units
